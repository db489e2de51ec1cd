-- Laws that the proofs of `records` cite, and some for its callers.
pub mod Stores
pub mod RoundBytes
pub mod RoundRecords
pub mod Found
