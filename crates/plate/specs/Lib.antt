-- What the contracts of `plate` cite besides those of the crates below: the answers of the length calls.
pub mod Lengths
