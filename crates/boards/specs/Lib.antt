-- What the contracts of `boards` cite: document 01's boards and their judge, with worked cases.
pub mod Board
pub mod Judge
pub mod JudgeCases
pub mod Obeys
pub mod Walks
-- the same in arrays, as the code has it; of BoardParts, `wired` is also part of what the statements of rewiring say
pub mod Wires
pub mod BoardParts
pub mod Read
pub mod Formed
