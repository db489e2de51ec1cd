-- Block run and reading by samples, over any nodes' rules and with wires that may change while a board plays. Table, Order, Visit, Ring,
-- Effect, Calls and Time are part of what the statements of the upper crates say; the rest is scaffolding.
pub mod Table
pub mod Order
pub mod Visit
pub mod Effect
pub mod Calls
pub mod Time
pub mod Ring
pub mod Board
pub mod Blocks
pub mod Past
pub mod Solution
pub mod Keeps
pub mod Encode
pub mod Tail
pub mod Memory
