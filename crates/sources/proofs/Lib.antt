-- Laws of sources and of their table, for the proofs of the upper crates.
pub mod Tabling
pub mod Repeats
pub mod Part
