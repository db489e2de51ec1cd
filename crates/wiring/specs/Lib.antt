-- Wires added and pulled while a board plays. Rewire is what the contracts of the two calls on lent bytes say; Rewiring is what the functions of the
-- code ask.
pub mod Rewire
pub mod Rewiring
