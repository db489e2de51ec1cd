-- What the contracts of `sources` cite: a node's sources as document 01 counts them (Sources), and one more in the table (Gather: scaffolding).
pub mod Sources
pub mod Gather
