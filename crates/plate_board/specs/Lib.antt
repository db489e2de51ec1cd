-- Document 01's plate and its writer, and what is shown of the plate.
pub mod Plate
pub mod Facts
