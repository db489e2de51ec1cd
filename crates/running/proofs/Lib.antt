-- Laws of the block run's stages.
pub mod RunLaws
pub mod CallStarts
pub mod CallRun
