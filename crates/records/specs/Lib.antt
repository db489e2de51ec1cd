-- What the contracts of `records` cite: the answers' numbers and places (Answer), the record found at an offset (Record), and the bytes that are
-- written for a board (Write).
pub mod Answer
pub mod Record
pub mod Write
