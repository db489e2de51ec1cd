-- Laws that the proofs of the mix message cite, and what an accepted mix is.
pub mod Mixing
pub mod MixLaws
