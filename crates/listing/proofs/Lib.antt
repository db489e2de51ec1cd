-- Laws that the proofs of `listing` and of the programs above it cite.
pub mod Writing
pub mod Cases
pub mod Fitting
