-- Laws that the proofs of `text` and of its users cite.
pub mod Writing
pub mod Digits
pub mod Finding
