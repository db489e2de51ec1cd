-- One preset at two block sizes (document 02, request 12). Sizes is what the theorem says; Settled what is promised of a board that is carried, and
-- PlateSizes the same of the plate.
pub mod Sizes
pub mod Settled
pub mod PlateSizes
