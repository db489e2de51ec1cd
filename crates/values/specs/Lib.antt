-- What the contracts of `values` cite: bytes, 4-byte values and floats; floor and ranges.
pub mod Words
pub mod Parts
pub mod Bytes
pub mod Floats
pub mod Floors
