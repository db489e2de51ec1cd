-- One block more (Turns), and what holds of the bytes that are written (Read).
pub mod Turns
pub mod Read
