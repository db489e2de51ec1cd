-- The reading ends: as many steps as there are bytes, and one more, never leave it going. Every refusal has a number above 0, so that the
-- number 0 is given to accepted boards alone. Assumes nothing.
use Rattle.std.specs.Prelude.{Option, Some, None, Result, Ok, Err}
use Prim.Native.Nat.{ℕ, zero, suc, ◌+◌, ◌≤◌, ◌<◌}
use mathlib.Core.Path.{sym, subst}
use mathlib.Core.List.{List, [], ◌∷◌}
use native.Mathlib.Omega.{arith}
use lib.Dec.{eqb}
use lib.ListN.{length}
use Rattle.values.specs.Bytes.{u16_at, u32_at}
use Rattle.kinds.specs.Kind.{rule_of, sources_fit}
use Rattle.kinds.specs.declared.kind.NodeKind.{NodeKind}
use Rattle.kinds.specs.declared.kind.NodeRecord.{NodeRecord}
use Rattle.records.specs.Record.{found_at}
use Rattle.sources.specs.Sources.{distinct_sources}
use Rattle.boards.specs.Board.{Parsed, Progress, going, refused, whole, headed, lines_of, size_fits, node_fits, wire_fits, node_by, take_found, step_of, run, read_records}
use Rattle.boards.specs.Judge.{input_fits, check_sources, then_six, read_board}
use Rattle.records.specs.declared.record.Found.{Found}
use Rattle.records.specs.declared.record.Found.TheVariants as found
use Rattle.reading.proofs.Choice.{pick}
use Rattle.records.proofs.Found.{Room, found_room}
use Rattle.boards.proofs.Run.{run_done}

abbrev pub Ended : Progress → Type 0
Ended (going at last p) = ⊥
Ended (refused n w) = 0 < n
Ended (whole p) = Unit {0}

module _ (s : List ℕ) where
  -- from an offset: on to a later one within the bytes, or to an end
  abbrev Moves : ℕ → Progress → Type 0
  Moves at (going next last p) = (at < next) × (next ≤ length s)
  Moves at (refused n w) = 0 < n
  Moves at (whole p) = Unit {0}

  node_moves : (at : ℕ) (p : Parsed) (r : Option NodeKind) → at + 14 ≤ length s → Moves at (node_by at p r)
  node_moves at p None h = omega arith
  node_moves at p (Some k) h = pick (Moves at) (node_fits (length p.nodes) (lines_of p.nodes) k) _ _ (λ _. (omega arith, h)) (λ _. omega arith)

  found_moves : (at last : ℕ) (p : Parsed) (f : Result Found ℕ) → Room (length s) at last f → Moves at (take_found s at p f)
  unfolding take_found
  found_moves at last p (Ok found.Head) room = pick (Moves at) (size_fits (u16_at s (at + 4))) _ _ (λ _. (omega arith, room.0)) (λ _. omega arith)
  found_moves at last p (Ok found.Node) room = node_moves at p (rule_of (u16_at s (at + 4)) (u32_at s (at + 6)) (u32_at s (at + 10))) room.0
  found_moves at last p (Ok found.Wire) room =
      pick (Moves at) (wire_fits (length p.nodes) (length p.wires) (u16_at s (at + 4)) (u16_at s (at + 6))) _ _ (λ _. (omega arith, room.0)) (λ _. omega arith)
  found_moves at last p (Ok found.End) room = pick (Moves at) (eqb (at + 4) (length s)) _ _ (λ _. tt) (λ _. omega arith)
  found_moves at last p (Err n) room = room

  -- what a step leads to ends, if every reading at a later offset does
  moved_ends : (n at : ℕ) → ((next last : ℕ) (p : Parsed) → at < next → next ≤ length s → Ended (run n s (going next last p)))
      → (r : Progress) → Moves at r → Ended (run n s r)
  moved_ends n at later (going next last p) m = later next last p m.0 m.1
  moved_ends n at later (refused k w) m = subst Ended (sym (run_done s n (refused k w) tt)) m
  moved_ends n at later (whole p) m = subst Ended (sym (run_done s n (whole p) tt)) tt

  run_ending : (n at last : ℕ) (p : Parsed) → at ≤ length s → length s < n + at → Ended (run n s (going at last p))
  unfolding run step_of
  run_ending zero at last p inside enough = absurd (omega arith)
  run_ending (suc n) at last p inside enough =
      moved_ends n at (λ next l q on within. run_ending n next l q within (omega arith)) (take_found s at p (found_at s at last))
      (found_moves at last p (found_at s at last) (found_room s at last))

  records_end : Ended (read_records s)
  unfolding read_records
  records_end = run_ending (suc (length s)) 0 0 (headed 0 0) (omega arith) (omega arith)

  walk_ends : (p : Parsed) (i : ℕ) (rs : List NodeRecord) → Ended (check_sources p i rs)
  unfolding check_sources
  walk_ends p i [] = tt
  walk_ends p i (r ∷ rs) = pick Ended (sources_fit r.kind (length (distinct_sources p.wires i))) _ _ (λ _. walk_ends p (suc i) rs) (λ _. omega arith)

  six_ends : (r : Progress) → Ended r → Ended (then_six r)
  six_ends (going at last p) d = d
  six_ends (refused n w) d = d
  six_ends (whole p) d =
      pick Ended (eqb (length p.nodes) 0) _ _ (λ _. omega arith)
      (λ _. pick Ended (input_fits p) _ _ (λ _. walk_ends p 0 p.nodes) (λ _. omega arith))

  -- every board is refused by a number or accepted
  pub board_ends : Ended (read_board s)
  unfolding read_board
  board_ends = six_ends (read_records s) records_end
