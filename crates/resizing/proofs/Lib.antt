-- Laws of a board's kinds and late wires, and of what is to be done to a board that is carried.
pub mod Boards
pub mod Planning
