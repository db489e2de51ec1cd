-- Laws that belong to no one function.
pub mod Patterns
pub mod FourLanes
pub mod Floors
pub mod WholePart
