-- What the contract of the block run says.
pub mod Block
