-- What the contracts of `decimals` cite.
pub mod Decimal
pub mod Number
pub mod Big
