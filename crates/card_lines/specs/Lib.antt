-- What the contracts of `card_lines` cite: what a line of a card says.
pub mod Reason
pub mod Names
pub mod Labels
pub mod LineLengths
pub mod Line
