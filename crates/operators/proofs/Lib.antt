-- Laws that the proofs of `operators` and `nodes` cite.
pub mod Totals
pub mod Plain
pub mod Phases
