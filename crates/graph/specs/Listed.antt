-- What holds of a visiting list (document 01, "Visiting list" and "Reading by samples"): it lists the reached nodes, each once. Definitions only.
use Rattle.std.specs.Prelude.{◌≡◌, ℕ, ◌<◌, true, false, List, [], ◌∷◌, ◌++◌}
use Rattle.reading.specs.Table.{mem}
use Rattle.reading.specs.Order.{Wire, sources, late, Once}
use Rattle.reading.specs.Visit.{Reached}

-- every wire's source is below n
abbrev pub SourcesBelow : List Wire → ℕ → Type 0
SourcesBelow ws n = (k s : ℕ) → mem s (sources ws k) ≡ true → s < n

pub record ListsReached (ws : List Wire) (l : List ℕ) : Type 0 where
  pub once : Once l
  -- node 0 and each node from which wires lead to it, and no other
  pub only : (k : ℕ) → mem k l ≡ true → Reached ws k
  pub all : (k : ℕ) → Reached ws k → mem k l ≡ true
  -- the sources of a listed node are listed
  pub closed : (k s : ℕ) → mem k l ≡ true → mem s (sources ws k) ≡ true → mem s l ≡ true
  pub last : (front : List ℕ) × (l ≡ front ++ (0 ∷ []))
  -- listed nodes are the board's, if the sources of its wires are
  pub below : (n : ℕ) → 0 < n → SourcesBelow ws n → (k : ℕ) → mem k l ≡ true → k < n
  -- a node without wires in, as the input node, stands before every listed node that it is a source of
  pub input_first : (i : ℕ) → sources ws i ≡ [] → (k : ℕ) → mem k l ≡ true → mem i (sources ws k) ≡ true → late l i k ≡ false
