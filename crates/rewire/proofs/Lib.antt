-- Laws that the proofs of `rewire` cite.
pub mod Saying
pub mod Making
pub mod Answering
pub mod Cases
