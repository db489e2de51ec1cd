-- Run: what a block run does to a board's memory. Lent: scaffolding of the code's inner contracts and of the proofs.
pub mod Run
pub mod Lent
