-- `running::run::run` meets its contract. After each turn the nodes that are left make of the memory what all of them make of the first.
-- Assumes nothing.
use Prim.Native.Nat.{ℕ, ◌*◌, ◌≤◌, ◌<◌}
use mathlib.Core.Path.{◌≡◌, refl, sym, ap, subst, ◌∙◌}
use mathlib.Core.List.{List}
use native.Mathlib.Omega.{arith}
use lib.ListN.{length, get_or, take, drop, replicate, length-replicate}
use lib.Seq.{length-take-le}
use lib.Ieee.{Float}
use Rattle.values.specs.Words.{words}
use Rattle.kinds.specs.Node.{brought_at, node_run}
use Rattle.nodes.specs.Ready.{Ready}
use Rattle.memory.specs.Memory.{node_in, listed}
use Rattle.running.specs.Run.{run_node}
use Rattle.running.specs.Lent.{Runs}
use Rattle.nodes.specs.declared.node.Starts.{Starts}
use Rattle.boards.specs.Read.{parsed_of}
use Rattle.boards.specs.declared.board.Board.{Board}
use Rattle.graph.specs.declared.graph.Order.{Order}
use Rattle.running.proofs.CallRun.{turn_run, turn_ready, Running, running_none, running_end, running_more, node_listed}
use Rattle.running.proofs.run.run.Goals as goal

-- a turn, with the i-th of the listed nodes l: the node is the board's, and has few sources
module _ (b : Board) (st : Starts) (o : Order) (m₀ : List ℕ) (runs : Runs b st o m₀) (l : List ℕ) (l_is : l ≡ take o.count o.nodes) (i : ℕ) (more : i < length l)
    (k : ℕ) (k_is : k ≡ get_or l i 0) where
  same : l ≡ listed (parsed_of b)
  same = l_is ∙ runs.lists.same

  left : i < length (listed (parsed_of b))
  left = subst (λ (r : List ℕ). i < length r) same more

  k_listed : k ≡ get_or (listed (parsed_of b)) i 0
  k_listed = k_is ∙ ap (λ (r : List ℕ). get_or r i 0) same

  here : k < b.count
  here = subst (λ (j : ℕ). j < b.count) (sym k_listed) (node_listed b st o m₀ runs i left)

  small : k < 64
  small = omega (arith, here, b.few)

  -- its distinct sources
  abbrev list : List ℕ
  list = take (get_or b.sources.counts k 0) (drop (8 * k) b.sources.lists)

  lent : (k < 64) × (get_or b.sources.counts k 0 ≤ 8)
  lent = (small, (runs.table k small).few)

  -- the same turn, from where its numbers are read
  module _ (second : ℕ) (second_is : second ≡ get_or b.sources.seconds k 0) (memory : List ℕ) (running : Running b m₀ memory i) where
    ready : Ready memory (node_in b.nodes k).kind b.size (node_in b.nodes k).cell list st.lefts st.rights second
    ready =
        turn_ready b runs.fine runs.table k here (get_or b.sources.counts k 0) refl
        st runs.starts second second_is memory (running.kept ∙ runs.long) running.judged

    -- the node's block is the definition's
    ran : (m : List ℕ)
        → words m ≡ node_run (node_in b.nodes k).kind b.size (node_in b.nodes k).cell (brought_at (words memory) st.lefts st.rights list second) (words memory)
        → words m ≡ run_node (parsed_of b) (get_or (listed (parsed_of b)) i 0) (words memory)
    ran m e =
        e
        ∙ turn_run b runs.fine runs.table k here (get_or b.sources.counts k 0) refl st runs.starts second second_is memory
        ∙ ap (λ (j : ℕ). run_node (parsed_of b) j (words memory)) k_listed

-- the room for a block
room : (x : Float) (n : ℕ) → n ≤ 128 → length (take n (replicate 128 x)) ≡ n
room x n h = length-take-le n (replicate 128 x) (omega (arith, length-replicate 128 x))

pub loop-node-init : goal.loop-node-init
loop-node-init c =
    let size = c.requires.fine.most_size in
    (running_none _ _ _ _ c.requires, room _ _ size, room _ _ size)

pub bounds-table-k : goal.bounds-table-k
bounds-table-k c = small _ _ _ _ c.requires _ c.listed-node-items.ensures c.loop-node.node-index c.loop-node-test.true _ c.from-k.ensures

pub bounds-board-k : goal.bounds-board-k
bounds-board-k c = small _ _ _ _ c.requires _ c.listed-node-items.ensures c.loop-node.node-index c.loop-node-test.true _ c.from-k.ensures

pub of-requires : goal.of-requires
of-requires c = lent _ _ _ _ c.requires _ c.listed-node-items.ensures c.loop-node.node-index c.loop-node-test.true _ c.from-k.ensures

pub step-requires-clause-ready : goal.step-requires-clause-ready
step-requires-clause-ready c =
    let at = c.loop-node in
    rw (at.invariant.1, c.of.ensures.items)
    (ready _ _ _ _ c.requires _ c.listed-node-items.ensures at.node-index c.loop-node-test.true _ c.from-k.ensures _ c.from.ensures at.memory at.invariant.0)

pub loop-node-preserved : goal.loop-node-preserved
loop-node-preserved c =
    let at = c.loop-node in
    let stepped = c.step in
    let l = c.listed-node-items in (
      running_more _ _ _ _ c.requires at.node-index (left _ _ _ _ c.requires _ l.ensures at.node-index c.loop-node-test.true _ c.from-k.ensures)
          at.memory stepped.new.memory at.invariant.0 stepped.auto.memory
          (ran _ _ _ _ c.requires _ l.ensures at.node-index c.loop-node-test.true _ c.from-k.ensures _ c.from.ensures
          at.memory at.invariant.0 stepped.new.memory (rw (at.invariant.1, c.of.ensures.items) at stepped.ensures)),
      stepped.auto.x ∙ at.invariant.1,
      stepped.auto.m ∙ at.invariant.2,
    )

pub returns : goal.returns
returns c =
    let at = c.loop-node in
    let l : c.listed-node-items.result.now ≡ listed (parsed_of c.args.board.now) = c.listed-node-items.ensures ∙ c.requires.lists.same in
    running_end _ _ _ _ c.requires at.memory at.node-index (subst (λ (r : List ℕ). length r ≤ at.node-index) l c.loop-node-test.false) at.invariant.0
