-- Laws that the proofs of `wav` share.
pub mod Widths
pub mod Exact
pub mod Nearest
pub mod Lists
pub mod Worked
