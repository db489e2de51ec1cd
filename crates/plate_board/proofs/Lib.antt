-- Laws that the proofs of the writer cite, and the plate's facts.
pub mod Tables
pub mod Written
pub mod Dry
pub mod PlateFacts
