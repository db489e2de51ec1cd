-- What the contracts of `effects` cite: blocks as the loops hold them (Block), and rings in stretches (Ring). Scaffolding.
pub mod Block
pub mod Ring
