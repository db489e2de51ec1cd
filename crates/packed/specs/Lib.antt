-- Packed is what the contract of a packed block says; Said is scaffolding.
pub mod Packed
pub mod Said
