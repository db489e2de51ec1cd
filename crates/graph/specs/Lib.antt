-- What the contracts of `graph` cite: document 01's visiting list, late wires and tail, with worked cases; Walking is scaffolding.
pub mod Visit
pub mod Listed
pub mod Late
pub mod Tail
pub mod VisitCases
pub mod Walking
