-- Wires added and pulled (`joins`, `wired` and `older` of Carried are what the contracts of the two calls say), and how the visiting list is carried
-- over a change; Skimming is what the functions of the code ask.
pub mod Carried
pub mod Skimming
