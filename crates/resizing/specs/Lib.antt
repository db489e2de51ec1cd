-- A board carried to another block size (document 02, request 12). Resize is what `resize` makes of a board; Planning is scaffolding.
pub mod Resize
pub mod Planning
