-- Laws that the proofs of `card_lines` cite.
pub mod Naming
pub mod Labelling
pub mod Reasons
