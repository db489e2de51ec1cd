-- What the contracts of `kinds` cite: document 01's table (Row), the types' numbers (Types), what the board's reader asks of a type (Kind), the rule by samples and the cell
-- (Rule, Cell), a block run over the memory (Node) and a node as the reading knows it (History). Iter helps to say them; HistoryRules is
-- scaffolding.
pub mod Row
pub mod Types
pub mod Kind
pub mod Iter
pub mod Rule
pub mod Cell
pub mod Node
pub mod History
pub mod HistoryRules
