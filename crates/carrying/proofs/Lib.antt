-- The carried list is the list found afresh.
pub mod Lists
pub mod ListParts
pub mod Depth
pub mod Copying
pub mod Carry
pub mod Wires
pub mod Laying
pub mod Placed
pub mod Going
pub mod Distinct
pub mod Tables
pub mod Called
