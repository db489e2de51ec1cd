-- Laws that the proofs of `graph` cite, and theorems for its callers.
pub mod Going
pub mod Listed
pub mod Accepted
pub mod Late
pub mod Placing
pub mod Lines
pub mod Wired
