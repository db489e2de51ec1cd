-- What the contracts of `rewire` cite.
pub mod Change
pub mod Step
