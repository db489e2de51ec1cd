-- The theorems: a block run in any orders that fit is what the reading by samples says, for every list of calls, changes of the wiring among
-- them (Solution), on bytes too (Memory); of a node out of reach (Still); the visiting list (Visit), rings against histories (Ring), the
-- tail (Tail). Choice has what any proof may need of a Bool.
pub mod Choice
pub mod Table
pub mod Order
pub mod Visit
pub mod Ring
pub mod Times
pub mod Effect
pub mod Moment
pub mod Past
pub mod Block
pub mod Calls
pub mod Main
pub mod Time
pub mod Solution
pub mod Encode
pub mod Keeps
pub mod Memory
pub mod Still
pub mod Tail
