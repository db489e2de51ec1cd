-- Laws of blocks and rings that the proofs of `effects` and of the crates above it cite.
pub mod Filled
pub mod Poles
pub mod Rings
pub mod Woven
