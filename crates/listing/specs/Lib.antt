-- What the contracts of `listing` cite.
pub mod Text
