-- Laws of the table, of cells and of histories, for the proofs of `kinds` and of its callers.
pub mod Several
pub mod Arms
pub mod Rows
pub mod Iterated
pub mod Cells
pub mod Unread
pub mod Kept
pub mod Fresh
pub mod Carried
pub mod Histories
pub mod HistoryFrames
pub mod HistoryRules
