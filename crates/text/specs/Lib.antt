-- What the contracts of `text` cite.
pub mod Written
pub mod Words
