-- Laws that the proofs of `answers` cite.
pub mod Lining
