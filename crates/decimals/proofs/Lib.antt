-- Laws that the proofs of `decimals` and of its users cite, and worked values.
pub mod Scaling
pub mod Tens
pub mod WordSums
pub mod Rounding
pub mod Reading
pub mod Question
pub mod Worked
