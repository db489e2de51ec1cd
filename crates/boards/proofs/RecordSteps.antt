-- One record of the nodes, and one of the wires, against a step of the reading. Assumes nothing.
use Rattle.std.specs.Prelude.{Option, Some, None, Result, Ok, Err}
use Prim.Native.Nat.{ℕ, ◌+◌, ◌-◌, ◌≤◌, ◌<◌}
use mathlib.Core.Path.{◌≡◌, refl, sym, ap, subst, ◌∙◌}
use mathlib.Core.List.{List}
use mathlib.Core.Bool.{true, false, ◌&&◌, true≢false}
use native.Mathlib.Omega.{arith}
use borrow.Author.Tests.{eq-eqb, leb-true, le-leb, eqb-true, le-ltb}
use lib.Dec.{leb, eqb}
use lib.ListN.{length, drop, length-drop}
use Rattle.values.specs.Bytes.{u16_at, u32_at}
use Rattle.kinds.specs.Kind.{rule_of}
use Rattle.kinds.specs.declared.kind.NodeKind.{NodeKind}
use Rattle.records.specs.Record.{cut, found_of, found_at}
use Rattle.boards.specs.Board.{Parsed, Progress, going, refused, lines_of, with_node, with_wire, node_fits, node_by, end_by, take_found, step_of}
use Rattle.boards.specs.BoardParts.{starts_with, node_body, node_read, is_wire, nodes_end, wires_end, HeadRead}
use Rattle.records.specs.declared.record.Found.{Found}
use Rattle.records.specs.declared.record.Found.TheVariants.{Head, Node, Wire, End}
use Rattle.boards.specs.declared.board.Head as head-type
use Rattle.records.specs.declared.answer.Answer.{Answer}
use Rattle.reading.proofs.Choice.{pick, both}
use Rattle.records.proofs.RoundBytes.{u16_on}
use Rattle.records.proofs.RoundRecords.{Stands, found_told}
use Rattle.boards.proofs.Fits.{NodeFits, node_fits_lem, WireFits, wire_fits_lem}
use Rattle.records.proofs.Found.{Room, Over, found_room, found_one, found_over}

pub step_takes : (s : List ℕ) (at last : ℕ) (p : Parsed) (f : Result Found ℕ) → found_at s at last ≡ f → take_found s at p f ≡ step_of s (going at last p)
unfolding step_of
step_takes s at last p f e = ap (take_found s at p) (sym e)

-- the same reading, written another way
pub head_as : {v w : Progress} (r : Result head-type.Head Answer) → v ≡ w → HeadRead v r → HeadRead w r
head_as r e h = subst (λ (x : Progress). HeadRead x r) e h

-- what may follow the head may follow a node
pub step_one : (s : List ℕ) (at : ℕ) (p : Parsed) → step_of s (going at 1 p) ≡ step_of s (going at 2 p)
unfolding step_of
step_one s at p = ap (take_found s at p) (found_one s at)

-- what a record of the nodes says, after i nodes with so many line values, and what the step makes of any such board
module _ (s : List ℕ) (at i lines : ℕ) where
  abbrev Steps : (Parsed → Progress) → Type 0
  Steps f = (p : Parsed) → length p.nodes ≡ i → lines_of p.nodes ≡ lines → step_of s (going at 2 p) ≡ f p

  abbrev pub NodeStep : Result (Option NodeKind) Answer → Type 0
  NodeStep (Ok (Some k)) = Steps (λ p. going (at + 14) 2 (with_node p k)) × NodeFits i lines k × (at + 14 ≤ length s)
  NodeStep (Ok None) = Steps (λ p. step_of s (going at 3 p))
  NodeStep (Err a) = (0 < a.number) × Steps (λ p. refused a.number a.place)

  node_ruled : (r : Option NodeKind) → ((p : Parsed) → step_of s (going at 2 p) ≡ node_by at p r) → at + 14 ≤ length s → NodeStep (node_body at i lines r)
  node_ruled None e h = (omega arith, λ p _ _. e p)
  node_ruled (Some k) e h =
      pick NodeStep (node_fits i lines k) _ _
      (λ q. (λ p u v. e p ∙ rw (u, v, q), node_fits_lem i lines k q, h))
      (λ q. (omega arith, λ p u v. e p ∙ rw (u, v, q)))

  node_over : Over (found_at s at 2) → (p : Parsed) → step_of s (going at 2 p) ≡ step_of s (going at 3 p)
  unfolding step_of
  node_over o p = ap (take_found s at p) (sym (found_over s at o))

  node_found : (f : Result Found ℕ) → found_at s at 2 ≡ f → Room (length s) at 2 f → NodeStep (node_read s at i lines f)
  unfolding step_of take_found node_read
  node_found (Ok Head) e h = absurd (omega (arith, h.1))
  node_found (Ok Node) e h = node_ruled (rule_of (u16_at s (at + 4)) (u32_at s (at + 6)) (u32_at s (at + 10))) (λ p. ap (take_found s at p) e) h.0
  node_found (Ok Wire) e h = λ p _ _. node_over (rw e tt) p
  node_found (Ok End) e h = λ p _ _. node_over (rw e tt) p
  node_found (Err n) e h = (h, λ p _ _. ap (take_found s at p) e)

  pub node_step : NodeStep (node_read s at i lines (found_at s at 2))
  node_step = node_found (found_at s at 2) refl (found_room s at 2)

-- what a record of the wires says, after w wires on a board of i nodes
module _ (s : List ℕ) (at i w : ℕ) where
  abbrev Joins : (Parsed → Progress) → Type 0
  Joins f = (p : Parsed) → length p.nodes ≡ i → length p.wires ≡ w → step_of s (going at 3 p) ≡ f p

  abbrev pub WireHere : Type 0
  WireHere =
      Joins (λ p. going (at + 8) 3 (with_wire p (u16_at s (at + 4)) (u16_at s (at + 6)))) × WireFits i w (u16_at s (at + 4)) (u16_at s (at + 6)) × (at + 8 ≤ length s)

  abbrev pub WireEnds : Result (Unit {0}) Answer → Type 0
  WireEnds (Ok _) = Joins (λ p. end_by s at p)
  WireEnds (Err a) = (0 < a.number) × (a.place ≡ at) × Joins (λ p. refused a.number a.place)

  module _ (f : Result Found ℕ) (e : found_at s at 3 ≡ f) where
    wire_is : Room (length s) at 3 f → is_wire s at i w f ≡ true → WireHere
    unfolding step_of take_found
    wire_is h q = go f e h q
      where
        go : (f : Result Found ℕ) → found_at s at 3 ≡ f → Room (length s) at 3 f → is_wire s at i w f ≡ true → WireHere
        go (Ok Head) e h q = absurd (omega (arith, h.1))
        go (Ok Node) e h q = absurd (omega (arith, h.2))
        go (Ok Wire) e h q = (λ p u v. ap (take_found s at p) e ∙ rw (u, v, q), wire_fits_lem i w _ _ q, h.0)
        go (Ok End) e h q = absurd (true≢false (sym q))
        go (Err n) e h q = absurd (true≢false (sym q))

    wire_no : Room (length s) at 3 f → is_wire s at i w f ≡ false → WireEnds (wires_end at f)
    unfolding step_of take_found
    wire_no h q = go f e h q
      where
        go : (f : Result Found ℕ) → found_at s at 3 ≡ f → Room (length s) at 3 f → is_wire s at i w f ≡ false → WireEnds (wires_end at f)
        go (Ok Head) e h q = absurd (omega (arith, h.1))
        go (Ok Node) e h q = absurd (omega (arith, h.2))
        go (Ok Wire) e h q = (omega arith, refl, λ p u v. ap (take_found s at p) e ∙ rw (u, v, q))
        go (Ok End) e h q = λ p _ _. ap (take_found s at p) e
        go (Err n) e h q = (h, refl, λ p _ _. ap (take_found s at p) e)

  pub wire_here : is_wire s at i w (found_at s at 3) ≡ true → WireHere
  wire_here = wire_is (found_at s at 3) refl (found_room s at 3)

  pub wire_ends : is_wire s at i w (found_at s at 3) ≡ false → WireEnds (wires_end at (found_at s at 3))
  wire_ends = wire_no (found_at s at 3) refl (found_room s at 3)

-- ---- a record known by its first four bytes

module _ (s : List ℕ) (at : ℕ) where
  starts_uncut : (z k : ℕ) → 4 ≤ z → starts_with s at z k ≡ true → (at + z ≤ length s) × (u16_at s at ≡ z) × (u16_at s (at + 2) ≡ k) × (cut s at ≡ false)
  starts_uncut z k four e =
      let three = both (leb (at + z) (length s) && eqb (u16_at s at) z) (eqb (u16_at s (at + 2)) k) e in
      let two = both (leb (at + z) (length s)) (eqb (u16_at s at) z) three.0 in
      let long : at + z ≤ length s = leb-true (at + z) (length s) two.0 in
      let size : u16_at s at ≡ z = eqb-true (u16_at s at) z two.1 in
      (long, size, eqb-true (u16_at s (at + 2)) k three.1, rw (le-ltb (length s - at) 4 (omega arith), le-ltb (length s - at) (u16_at s at) (omega arith)))

  starts : (z k : ℕ) → 0 < z → Stands (drop at s) k z → starts_with s at z k ≡ true
  starts z k some told =
      let long : at + z ≤ length s = omega (arith, told.long, length-drop at s) in
      let size : u16_at s at ≡ z = u16_on s at 0 at (omega arith) ∙ told.length_is in
      let kind : u16_at s (at + 2) ≡ k = u16_on s at 2 (at + 2) refl ∙ told.kind_is in
      rw (le-leb (at + z) (length s) long, eq-eqb (u16_at s at) z size, eq-eqb (u16_at s (at + 2)) k kind)

  pub starts_room : (z k : ℕ) → starts_with s at z k ≡ true → at + z ≤ length s
  starts_room z k e = leb-true (at + z) (length s) (both _ _ (both _ _ e).0).0

  -- a node stands there, after the head or a node
  pub starts_node : starts_with s at 14 2 ≡ true → found_at s at 2 ≡ Ok Node
  unfolding found_at found_of
  starts_node e = let h = starts_uncut 14 2 (omega arith) e in rw (h.3, h.2, h.1)

  -- and only so
  pub starts_no_node : (i lines : ℕ) → starts_with s at 14 2 ≡ false → node_read s at i lines (found_at s at 2) ≡ nodes_end at (found_at s at 2)
  unfolding node_read
  starts_no_node i lines e = go (found_at s at 2) refl
    where
      go : (f : Result Found ℕ) → found_at s at 2 ≡ f → node_read s at i lines f ≡ nodes_end at f
      go (Ok Head) q = refl
      go (Ok Node) q = absurd (true≢false (sym (starts 14 2 (omega arith) (found_told s at 2 (Ok Node) q).0) ∙ e))
      go (Ok Wire) q = refl
      go (Ok End) q = refl
      go (Err n) q = refl

  -- a wire stands there, after a node or a wire
  pub starts_wire : starts_with s at 8 3 ≡ true → found_at s at 3 ≡ Ok Wire
  unfolding found_at found_of
  starts_wire e = let h = starts_uncut 8 3 (omega arith) e in rw (h.3, h.2, h.1)

  -- and only so
  pub starts_no_wire : (i w : ℕ) → starts_with s at 8 3 ≡ false → is_wire s at i w (found_at s at 3) ≡ false
  starts_no_wire i w e = go (found_at s at 3) refl
    where
      go : (f : Result Found ℕ) → found_at s at 3 ≡ f → is_wire s at i w f ≡ false
      go (Ok Head) q = refl
      go (Ok Node) q = refl
      go (Ok Wire) q = absurd (true≢false (sym (starts 8 3 (omega arith) (found_told s at 3 (Ok Wire) q).0) ∙ e))
      go (Ok End) q = refl
      go (Err n) q = refl
