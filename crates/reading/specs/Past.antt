-- The reading, time after time: at each time every listed node applies its rule to what its wires bring at that time. Scaffolding: the
-- statements have the equations of time (`Solution`), which this solves. Assumes nothing.
use Rattle.std.specs.Prelude.{◌≡◌, ℕ, zero, suc, ◌-◌, true, false, cond, List, [], ◌∷◌, map, get_or, eqb}
use Rattle.reading.specs.Table.{put, tab, mem}
use Rattle.reading.specs.Order.{sources, late}
use Rattle.reading.specs.Board.{Rules, Net, Board, at, entered}
use Rattle.reading.specs.Blocks.{Cells, call_by}

-- What has been read so far: the samples of all times so far, newest first, and each node's state.
pub record Past (Out State : Type 0) : Type 0 where
  pub rows : List (ℕ → Out)
  pub states : ℕ → State

-- What one time brings of each node: its sample, and its state afterwards.
abbrev pub Moment : Type 0 → Type 0 → Type 0
Moment Out State = ℕ → Out × State

module _ {Out State : Type 0} (N : Net Out) where
  -- node k's sample from n times ago, silence before the start
  abbrev pub ago : Past Out State → ℕ → ℕ → Out
  ago p n k = get_or p.rows (n - 1) (λ _. N.silence) k

  -- what the place of node k's sample held: the input sample x if it is the input node, else its own sample of one block earlier
  abbrev pub held : Past Out State → Out → ℕ → Out
  held p x k = cond (eqb k N.input) x (ago p N.size k)

  -- what the wire from s to k brings: its source's sample of this time, and on a late wire that of one block earlier
  abbrev pub brings : Past Out State → Moment Out State → ℕ → ℕ → Out
  brings p m k s = cond (late N.visit s k) (ago p N.size s) (m s).0

  -- the cells that the reading leaves: each node's state, and its samples of the last size times, oldest first
  abbrev pub cells_of : Past Out State → Cells Out State
  cells_of p k = record { state = p.states k; samples = tab N.size (λ i. ago p (N.size - i) k) }

module _ {Out State Value : Type 0} (N : Net Out) (R : Rules Out State Value) where
  -- node k's rule at this time, which has the place i in its block
  abbrev pub rule : Past Out State → ℕ → Out → Moment Out State → ℕ → Out × State
  rule p i x m k = R.step k i (p.states k) (held N p x k) (map (λ s. brings N p m k s) (sources N.wires k))

  -- The equations of one time, which name no order but for the late wires: each listed node's sample and next state are its rule's,
  -- and another node stands still.
  pub record IsMoment (p : Past Out State) (i : ℕ) (x : Out) (m : Moment Out State) : Type 0 where
    pub listed : (k : ℕ) → mem k N.visit ≡ true → m k ≡ rule p i x m k
    pub others : (k : ℕ) → mem k N.visit ≡ false → m k ≡ (held N p x k, p.states k)

  -- The moment that solves them, by going through the visiting list.
  abbrev pub sweep : Past Out State → ℕ → Out → List ℕ → Moment Out State → Moment Out State
  sweep p i x [] m = m
  sweep p i x (k ∷ ks) m = sweep p i x ks (put m k (rule p i x m k))

  unfoldable pub moment : Past Out State → ℕ → Out → Moment Out State
  moment p i x = sweep p i x N.visit (λ k. (held N p x k, p.states k))

  -- one time more, at place i of a block, with the input sample x
  abbrev pub tick : Past Out State → ℕ → Out → Past Out State
  tick p i x = record { rows = (λ k. ((moment p i x) k).0) ∷ p.rows; states = λ k. ((moment p i x) k).1 }

  -- the first n times of a block, with the input samples xs 0, xs 1, ..
  abbrev pub ticks : Past Out State → (ℕ → Out) → ℕ → Past Out State
  ticks p xs zero = p
  ticks p xs (suc i) = tick (ticks p xs i) i (xs i)

module _ {C W In Out State Value : Type 0} (B : Board C W In Out Value) (R : W → Rules Out State Value) where
  -- a block is size times more
  abbrev pub read_block : W → List In → Past Out State → Past Out State
  read_block w xs p = ticks (at B w) (R w) p (entered B xs) B.size

  -- a number changes its node's state from then on
  abbrev pub tell_state : ℕ → Value → Past Out State → Past Out State
  tell_state k x p = record { rows = p.rows; states = put p.states k ((R B.first).set k x (p.states k)) }

  abbrev pub cells_read : Past Out State → Cells Out State
  cells_read p = cells_of (at B B.first) p

  -- a call on the wiring in force and what has been read so far
  abbrev pub read_call : C → W × Past Out State → (W × Past Out State) × List Out
  read_call = call_by B read_block tell_state (λ p. (cells_read p B.sink).samples)

  abbrev pub start : Past Out State
  start = record { rows = []; states = (R B.first).fresh }
