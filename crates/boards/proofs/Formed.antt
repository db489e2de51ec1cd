-- Every accepted board is well formed: each record keeps the board so, and check 6 says the rest. Assumes nothing.
use Rattle.std.specs.Prelude.{Option, Some, None, Result, Ok, Err}
use Prim.Native.Nat.{ℕ, zero, suc, ◌+◌, ◌≤◌, ◌<◌}
use mathlib.Core.Path.{◌≡◌, refl, subst}
use mathlib.Core.List.{List, [], ◌∷◌, ◌++◌}
use mathlib.Core.Bool.{Bool, true, false, cond}
use native.Mathlib.Nat.{add-zero, zero-add}
use native.Mathlib.Omega.{arith}
use borrow.Author.Tests.{eqb-false}
use lib.Dec.{eqb}
use lib.ListN.{length, get_or, length-append}
use Rattle.values.specs.Bytes.{u16_at, u32_at}
use Rattle.kinds.specs.Kind.{rule_of, sources_fit}
use Rattle.kinds.specs.declared.kind.NodeKind.{NodeKind}
use Rattle.kinds.specs.declared.kind.NodeRecord.{NodeRecord}
use Rattle.reading.specs.Order.{Wire, Each, wire}
use Rattle.records.specs.Record.{found_at}
use Rattle.sources.specs.Sources.{distinct_sources}
use Rattle.boards.specs.Board.{Parsed, Progress, going, refused, whole, lines_of, headed, size_fits, node_fits, wire_fits, node_by, wire_by, take_found, step_of, run, read_records}
use Rattle.boards.specs.Judge.{input_fits, check_sources, check_six, then_six, read_board}
use Rattle.boards.specs.Obeys.{WireObeys}
use Rattle.boards.specs.Formed.{Formed}
use Rattle.records.specs.declared.record.Found.{Found}
use Rattle.records.specs.declared.record.Found.TheVariants as found
use Rattle.reading.proofs.Choice.{pick}
use Rattle.boards.proofs.NodeSums.{lines_snoc}
use Rattle.boards.proofs.Fits.{node_fits_lem, wire_fits_lem}
use Rattle.boards.proofs.Run.{refused_is_not_whole, going_is_not_whole}

-- ---- one record more

joins-snoc : (n : ℕ) (ws : List Wire) (w : Wire) → Each (WireObeys n) ws → WireObeys n w → Each (WireObeys n) (ws ++ (w ∷ []))
joins-snoc n [] w h j = (j, tt)
joins-snoc n (x ∷ ws) w h j = (h.0, joins-snoc n ws w h.1 j)

joins-more : (n m : ℕ) → n ≤ m → (ws : List Wire) → Each (WireObeys n) ws → Each (WireObeys m) ws
joins-more n m l [] h = tt
joins-more n m l (w ∷ ws) h =
    let old = h.0 in
    (record { source_there = omega (arith, old.source_there); target_there = omega (arith, old.target_there); apart = old.apart }, joins-more n m l ws h.1)

-- the records read so far
record Records (p : Parsed) : Type 0 where
  few_lines : lines_of p.nodes ≤ 262144
  joins : Each (WireObeys (length p.nodes)) p.wires

headed_formed : (N i : ℕ) → Records (headed N i)
headed_formed N i = record { few_lines = omega arith; joins = tt }

abbrev Good : Progress → Type 0
Good (going at last p) = Records p
Good (refused n w) = Unit {0}
Good (whole p) = Records p

module _ (at : ℕ) (p : Parsed) (h : Records p) where
  node_good : (r : Option NodeKind) → Good (node_by at p r)
  node_good None = tt
  node_good (Some k) =
      let i = length p.nodes in
      let lines = lines_of p.nodes in
      pick Good (node_fits i lines k) _ _
      (λ e. record {
        few_lines = rw (lines_snoc p.nodes) (node_fits_lem i lines k e).few_lines;
        joins = joins-more _ _ (simp length-append (omega arith)) p.wires h.joins;
      })
      (λ _. tt)

  wire_good : (a t : ℕ) → Good (wire_by at p a t)
  wire_good a t =
      let i = length p.nodes in
      let w = length p.wires in
      pick Good (wire_fits i w a t) _ _
      (λ e. record { few_lines = h.few_lines; joins = joins-snoc _ p.wires (wire a t) h.joins (wire_fits_lem i w a t e).obeys })
      (λ _. tt)

-- ---- the reading

module _ (s : List ℕ) where
  found_good : (at : ℕ) (p : Parsed) (f : Result Found ℕ) → Records p → Good (take_found s at p f)
  unfolding take_found
  found_good at p (Ok found.Head) h = pick Good (size_fits (u16_at s (at + 4))) _ _ (λ _. headed_formed (u16_at s (at + 4)) (u16_at s (at + 6))) (λ _. tt)
  found_good at p (Ok found.Node) h = node_good at p h (rule_of (u16_at s (at + 4)) (u32_at s (at + 6)) (u32_at s (at + 10)))
  found_good at p (Ok found.Wire) h = wire_good at p h (u16_at s (at + 4)) (u16_at s (at + 6))
  found_good at p (Ok found.End) h = pick Good (eqb (at + 4) (length s)) _ _ (λ _. h) (λ _. tt)
  found_good at p (Err n) h = tt

  step_good : (r : Progress) → Good r → Good (step_of s r)
  unfolding step_of
  step_good (going at last p) g = found_good at p (found_at s at last) g
  step_good (refused n w) g = tt
  step_good (whole p) g = g

  run_good : (n : ℕ) (r : Progress) → Good r → Good (run n s r)
  unfolding run
  run_good zero r g = g
  run_good (suc n) r g = run_good n (step_of s r) (step_good r g)

  records_good : Good (read_records s)
  unfolding read_records
  records_good = run_good (suc (length s)) (going 0 0 (headed 0 0)) (headed_formed 0 0)

-- ---- check 6

-- a choice that is not the refusal
choice : (b : Bool) (n w : ℕ) {x : Progress} {p : Parsed} → cond b x (refused n w) ≡ whole p → (b ≡ true) × (x ≡ whole p)
choice true n w e = (refl, e)
choice false n w {x} {p} e = refused_is_not_whole n w p e

other : (b : Bool) (n w : ℕ) {x : Progress} {p : Parsed} → cond b (refused n w) x ≡ whole p → (b ≡ false) × (x ≡ whole p)
other true n w {x} {p} e = refused_is_not_whole n w p e
other false n w e = (refl, e)

module _ (q p : Parsed) where
  walked : (i : ℕ) (rs : List NodeRecord) → check_sources q i rs ≡ whole p
      → (q ≡ p) × ((d : NodeRecord) (j : ℕ) → j < length rs → sources_fit (get_or rs j d).kind (length (distinct_sources q.wires (i + j))) ≡ true)
  unfolding check_sources
  walked i [] e = (cc, λ d j l. absurd (omega arith))
  walked i (r ∷ rs) e =
      let here = choice (sources_fit r.kind (length (distinct_sources q.wires i))) 6 i e in
      let rest = walked (suc i) rs here.1 in
      (rest.0, at here.0 rest.1)
    where
      at : sources_fit r.kind (length (distinct_sources q.wires i)) ≡ true
          → ((d : NodeRecord) (j : ℕ) → j < length rs → sources_fit (get_or rs j d).kind (length (distinct_sources q.wires (suc i + j))) ≡ true)
          → (d : NodeRecord) (j : ℕ) → j < suc (length rs) → sources_fit (get_or (r ∷ rs) j d).kind (length (distinct_sources q.wires (i + j))) ≡ true
      at first later d zero l = rw add-zero first
      at first later d (suc j) l =
          let up : i + suc j ≡ suc i + j = omega arith in
          rw up (later d j (omega arith))

-- check 6 passes a board as it is
pub six_same : (q p : Parsed) → check_six q ≡ whole p → q ≡ p
six_same q p e = (walked q p 0 q.nodes (choice (input_fits q) 6 q.input (other (eqb (length q.nodes) 0) 6 0 e).1).1).0

six_formed : (q p : Parsed) → Records q → check_six q ≡ whole p → Formed p
six_formed q p h e =
    let nodes = other (eqb (length q.nodes) 0) 6 0 e in
    let all = walked q p 0 q.nodes (choice (input_fits q) 6 q.input nodes.1).1 in
    subst Formed all.0 (record {
      some_nodes = omega (arith, eqb-false (length q.nodes) 0 nodes.0);
      few_lines = h.few_lines;
      joins = h.joins;
      sources_fit_lem = λ d i l. rw (zero-add i) at (all.1 d i l);
    })

reading_formed : (r : Progress) (p : Parsed) → Good r → then_six r ≡ whole p → Formed p
reading_formed (going at last q) p g e = going_is_not_whole at last q p e
reading_formed (refused n w) p g e = refused_is_not_whole n w p e
reading_formed (whole q) p g e = six_formed q p g e

-- every accepted board is well formed
pub whole_formed : (s : List ℕ) (p : Parsed) → read_board s ≡ whole p → Formed p
unfolding read_board
whole_formed s p e = reading_formed (read_records s) p (records_good s) e
