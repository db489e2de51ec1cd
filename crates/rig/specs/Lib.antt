-- What the contracts of `rig` cite.
pub mod Rig
