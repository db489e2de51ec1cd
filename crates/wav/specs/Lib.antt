-- What the contracts of `wav` cite.
pub mod Chunk
pub mod Format
pub mod Frames
pub mod Header
pub mod Level
