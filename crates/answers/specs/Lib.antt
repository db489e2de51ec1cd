-- What the contracts of `answers` cite.
pub mod Part
pub mod Rules
