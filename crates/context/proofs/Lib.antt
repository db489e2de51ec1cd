-- Laws of the block run.
pub mod BlockChecks
pub mod CallAccepted
pub mod CallBlock
pub mod CallCases
