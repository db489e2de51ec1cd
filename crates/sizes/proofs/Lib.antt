-- The theorem about two block sizes, and the board that is carried.
pub mod Streams
pub mod Line
pub mod Plays
pub mod Carried
pub mod Apart
pub mod Sizes
pub mod Obeying
pub mod Rewritten
pub mod Settled
pub mod Returned
pub mod PlateSizes
pub mod Worked
