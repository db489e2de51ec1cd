-- A law that the proof of `turn` cites.
pub mod Turns
