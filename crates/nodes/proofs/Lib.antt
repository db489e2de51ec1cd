-- Laws that the proofs of `nodes` cite.
pub mod Alike
pub mod Supplied
pub mod Brought
