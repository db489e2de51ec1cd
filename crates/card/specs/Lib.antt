-- What the contracts of `card` cite.
pub mod Board
