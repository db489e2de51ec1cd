-- What a block run asks, and what each type's loop is given inside it. Definitions only.
use Rattle.std.specs.Prelude.{ℕ, ◌+◌, ◌*◌, ◌≤◌, ◌<◌, ◌≡◌, Bool, true, false, ◌||◌, List, eqb, length, get_or, Float}
use Rattle.values.specs.Words.{words}
use Rattle.values.specs.Parts.{part}
use Rattle.kinds.specs.Kind.{type_of, channels_of, cell_size, sources_fit}
use Rattle.kinds.specs.Rule.{Brought, first, total}
use Rattle.kinds.specs.Cell.{cell_fits}
use Rattle.kinds.specs.Node.{LineFits}
use Rattle.effects.specs.Block.{sample}
use Rattle.operators.specs.Sums.{InMemory}
use Rattle.kinds.specs.declared.kind.NodeKind.{NodeKind}

-- what a block run asks: the board and the memory are judged, and every block lies within the memory m
pub record Ready (m : List ℕ) (k : NodeKind) (N at : ℕ) (list lefts rights : List ℕ) (second : ℕ) : Type 0 where
  pub above : 0 < N
  pub small : N ≤ 128
  pub line : LineFits k
  pub inside : 4 * (at + cell_size N k) ≤ length m
  pub judged : cell_fits k (part (words m) at (cell_size N k)) ≡ true
  pub counted : sources_fit k (length list) ≡ true
  pub lefts_long : length lefts ≡ 64
  pub rights_long : length rights ≡ 64
  pub left_in : InMemory list lefts N (length m)
  pub right_in : InMemory list rights N (length m)
  pub second_below : second < 64
  pub second_in : 4 * (get_or lefts second 0 + N) ≤ length m

-- ---- inside a block run: what a type's loop is given

-- x and m are what a type's loop is given of what the wires bring at one place: the first and the second of n sources, or the sum of
-- the sources, of the destination one for each channel
abbrev pub Operands : ℕ → Brought → Float → Float → Type 0
Operands n b x m = (0 < n → first b ≡ x) × (1 < n → b.second ≡ m)

abbrev pub sums_sources : NodeKind → Bool
sums_sources k = eqb (type_of k) 2 || eqb (type_of k) 3

abbrev pub GivesBy : Bool → ℕ → ℕ → Brought → Float → Float → Type 0
GivesBy true channels n b x m = (total b.left ≡ x) × (channels ≡ 2 → total b.right ≡ m)
GivesBy false channels n b x m = Operands n b x m

abbrev pub Gives : NodeKind → ℕ → Brought → Float → Float → Type 0
Gives k n b x m = GivesBy (sums_sources k) (channels_of k) n b x m

-- the same for each place of the blocks x and m, of n sources
pub record Supplies (k : NodeKind) (n N : ℕ) (x m : List Float) (bs : ℕ → Brought) : Type 0 where
  pub counted : (i : ℕ) → i < N → length (bs i).left ≡ n
  pub gives : (i : ℕ) → i < N → Gives k n (bs i) (sample x i) (sample m i)

-- what a block run asks of the cell that it is lent, where there are n sources
pub record CellReady (cell : List ℕ) (k : NodeKind) (N n : ℕ) : Type 0 where
  pub above : 0 < N
  pub small : N ≤ 128
  pub line : LineFits k
  pub whole : length cell ≡ 4 * cell_size N k
  pub judged : cell_fits k (words cell) ≡ true
  pub counted : sources_fit k n ≡ true
