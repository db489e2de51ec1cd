-- Laws of positions split in a loop.
pub mod Positions
pub mod Splits
