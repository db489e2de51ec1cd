-- What the contracts of `operators` cite: sums of sources (Sums), what an operator stores (Operators), and the phases of a sine (Phases). Scaffolding.
pub mod Sums
pub mod Operators
pub mod Phases
