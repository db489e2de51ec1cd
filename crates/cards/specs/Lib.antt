-- What the contracts of `cards` cite: what a card says, over its lines.
pub mod Board
-- the bytes on the way, as the code has them
pub mod Adding
