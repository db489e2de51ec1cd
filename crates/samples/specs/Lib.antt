-- Reading, Claim, Silence and Straight: what the theorems say. Instance: scaffolding of the proofs.
pub mod Reading
pub mod Claim
pub mod Silence
pub mod Straight
pub mod Burst
pub mod Instance
