-- The two calls on bytes.
pub mod Sixth
pub mod Gathers
pub mod Newest
pub mod Written
pub mod Boards
pub mod Answered
pub mod Changes
