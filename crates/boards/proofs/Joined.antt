-- The parts of the reading one after the other: where one is refused the whole is, and all of them give the board. Assumes nothing.
use Rattle.std.specs.Prelude.{Result, Ok, Err}
use Prim.Native.Nat.{ℕ, suc, ◌+◌, ◌≤◌, ◌<◌}
use mathlib.Core.Path.{◌≡◌, refl, sym, ap, ◌∙◌}
use mathlib.Core.List.{List}
use native.Mathlib.Nat.{suc-add}
use native.Mathlib.Omega.{arith}
use lib.Dec.{eqb}
use lib.ListN.{length, take}
use lib.Seq.{length-take-le, get_or-take}
use Rattle.records.specs.Record.{found_at}
use Rattle.sources.specs.Sources.{Tabled}
use Rattle.sources.specs.declared.sources.Sources.{Sources}
use Rattle.boards.specs.Wires.{wires_of}
use Rattle.reading.specs.Order.{Wire}
use Rattle.boards.specs.Board.{Parsed, Progress, going, refused, whole, blank, headed, end_by, take_found, step_of, run, read_records}
use Rattle.boards.specs.BoardParts.{noded, made_of, Refuses, Headed, Noded, Wired, Counts}
use Rattle.boards.specs.Read.{Together}
use Rattle.records.specs.declared.answer.Answer.{Answer}
use Rattle.records.specs.declared.record.Found.{Found}
use Rattle.records.specs.declared.record.Found.TheVariants as found
use Rattle.boards.specs.declared.board.Head.{Head}
use Rattle.boards.specs.declared.nodes.Nodes.{Nodes}
use Rattle.boards.specs.declared.board.Wires.{Wires}
use Rattle.reading.proofs.Choice.{pick}
use Rattle.records.proofs.Found.{Room, found_room}
use Rattle.boards.proofs.Run.{Done, run_one, run_suc, run_add, run_ends}
use Rattle.boards.proofs.RecordSteps.{step_one}

abbrev start : Progress
start = going 0 0 (headed 0 0)

-- an accepted head has its bytes
head_room : (s : List ℕ) (p q : Parsed) (f : Result Found ℕ) → Room (length s) 0 0 f → take_found s 0 p f ≡ going 8 1 q → 8 ≤ length s
unfolding take_found
head_room s p q (Ok found.Head) h e = omega (arith, h.0)
head_room s p q (Ok found.Node) h e = absurd (omega (arith, h.1))
head_room s p q (Ok found.Wire) h e = absurd (omega (arith, h.1))
head_room s p q (Ok found.End) h e = absurd (omega (arith, h.1))
head_room s p q (Err n) h e = let z : ◌≡◌ {A = ℕ} 0 1 = cc in absurd (omega arith)

-- the head is refused
pub head_refuses : (s : List ℕ) (a : Answer) → Refuses (step_of s start) a → Refuses (read_records s) a
head_refuses s a h = (h.0, run_ends s 1 _ (omega arith) tt (run_one s start ∙ h.1))

module _ (s : List ℕ) (h : Head) (head : Headed (step_of s start) h) where
  pub head_inside : 8 ≤ length s
  unfolding step_of
  head_inside = head_room s (headed 0 0) (headed h.size h.input) (found_at s 0 0) (found_room s 0 0) head.reads

  after_head : (n : ℕ) → run (suc (suc n)) s start ≡ run (suc n) s (going 8 2 (headed h.size h.input))
  after_head n =
      let hd = headed h.size h.input in
      run_suc s (suc n) start ∙ ap (run (suc n) s) head.reads ∙ run_suc s n (going 8 1 hd) ∙ ap (run n s) (step_one s 8 hd) ∙ sym (run_suc s n (going 8 2 hd))

  -- the nodes are refused; the steps so far are fewer than the bytes
  pub nodes_refuse : (a : Answer) (r : Nodes) → (0 < a.number) × Noded s h.size r (λ _. refused a.number a.place) → Refuses (read_records s) a
  nodes_refuse a r n =
      (n.0, run_ends s (suc (suc r.count)) _ (omega (arith, n.1.next_is, n.1.inside)) tt (after_head r.count ∙ n.1.reads h.input))

  module _ (n : Nodes) (nodes : Noded s h.size n (λ p. step_of s (going n.next 3 p))) where
    board : Parsed
    board = noded h.size h.input (take n.count n.nodes)

    after_nodes : (m : ℕ) → run (suc (suc (n.count + m))) s start ≡ run (suc m) s (going n.next 3 board)
    unfolding board
    after_nodes m =
        after_head (n.count + m)
        ∙ ap (λ (k : ℕ). run k s (going 8 2 (headed h.size h.input))) (sym (suc-add n.count m))
        ∙ run_add s (suc n.count) m (going 8 2 (headed h.size h.input))
        ∙ ap (run m s) (nodes.reads h.input)
        ∙ sym (run_suc s m (going n.next 3 board))

    module _ (w : Wires) (next : ℕ) where
      -- what the records come to, if that ends the reading
      ends : (v : Parsed → Progress) → Wired s n.next n.count w next v → Done (v (made_of h n (wires_of w.list w.count)))
          → read_records s ≡ v (made_of h n (wires_of w.list w.count))
      unfolding board
      ends v wires d =
          let counted : length (take n.count n.nodes) ≡ n.count = length-take-le n.count n.nodes (omega (arith, nodes.few, nodes.long)) in
          run_ends s (suc (suc (n.count + w.count))) _ (omega (arith, nodes.next_is, wires.next_is, wires.inside)) d
          (after_nodes w.count ∙ wires.reads board counted refl)

      -- the end record follows the wires
      pub made : Wired s n.next n.count w next (end_by s next) → read_records s ≡ end_by s next (made_of h n (wires_of w.list w.count))
      made wires = ends (end_by s next) wires (pick Done (eqb (next + 4) (length s)) _ _ (λ _. tt) (λ _. tt))

      -- a wire is refused
      pub wires_refuse : (a : Answer) → (0 < a.number) × Wired s n.next n.count w next (λ _. refused a.number a.place) → Refuses (read_records s) a
      wires_refuse a wires = (wires.0, ends (λ _. refused a.number a.place) wires.1 tt)

-- what the parts hold
pub made_together : (s : List ℕ) (h : Head) (n : Nodes) (w : Wires) (t : Sources) (next : ℕ) (v : Parsed → Progress) (r : Progress)
    → r ≡ whole (made_of h n (wires_of w.list w.count)) → (h.size ≤ 128) × (h.input < 65536) → {u : Parsed → Progress} → Noded s h.size n u → Wired s n.next n.count w next v
    → Tabled (wires_of w.list w.count) t.counts t.lists t.seconds → Together r h n w t
made_together s h n w t next v r reads small nodes wires table = record {
  reads = reads;
  small = small.0;
  near = small.1;
  sum = nodes.sum;
  held = nodes.small;
  joined = wires.joined;
  table = table;
}

-- what check 6 is given of it
pub made_counts : (s : List ℕ) (h : Head) (n : Nodes) (ws : List Wire) (counts lists seconds : List ℕ) {u : Parsed → Progress} → Noded s h.size n u → Tabled ws counts lists seconds
    → Counts (made_of h n ws) n.bounds counts
made_counts s h n ws counts lists seconds nodes table =
    let long : length (take n.count n.nodes) ≡ n.count = length-take-le n.count n.nodes (omega (arith, nodes.few, nodes.long)) in
    record {
      bound = λ i b.
          let below : i < n.count = omega (arith, long) in
          rw (get_or-take n.count n.nodes i blank below) (nodes.bound i below);
      counted = λ i b. table.counted i (omega (arith, long, nodes.few));
    }
