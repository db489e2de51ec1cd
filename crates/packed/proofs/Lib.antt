-- Laws of packed blocks.
pub mod Finite
pub mod Head
pub mod PackedLengths
pub mod Refused
pub mod Joined
