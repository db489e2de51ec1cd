-- What the contracts of `allpass` cite: the cell that is lent (Lent). Scaffolding.
pub mod Lent
