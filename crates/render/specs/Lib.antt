-- What the contracts of `render` cite.
pub mod Turn
pub mod Run
pub mod Step
pub mod Written
