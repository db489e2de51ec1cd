-- Laws that the proofs of `cards` cite, and what is shown of a card.
pub mod Making
pub mod Answered
pub mod Obeyed
pub mod Worked
