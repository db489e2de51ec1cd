-- Laws of memory and of the calls.
pub mod FineBoard
pub mod CallChecks
pub mod CallCells
pub mod CallBy
pub mod CallFresh
pub mod CallMessage
pub mod CallLaws
