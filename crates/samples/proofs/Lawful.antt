-- A board whose wirings are all fine is what the theory of block run and reading asks for:
--     net_orderly, kind_sound, rules-of    what a fine board's visiting list and rules are
--     board_sound                   the board is sound
--     rules_encode                  the rules on what memory holds encode those on what the reading knows
--     rules_lawful                  every call keeps what `Held` says of the states: so 8 never occurs
-- Assumes nothing.
use Prim.Native.Nat.{ℕ, ◌<◌}
use mathlib.Core.Path.{◌≡◌, refl, sym, ap, subst, ◌∙◌}
use mathlib.Core.List.{List, [], ◌∷◌}
use native.Mathlib.Omega.{arith}
use native.Mathlib.Decide.{dec_lt}
use borrow.Author.Tests.{not-false}
use lib.ListN.{length, get_or-eq_default, length-replicate}
use lib.Ieee.{to_bits}
use Rattle.kinds.specs.Kind.{line_of}
use Rattle.kinds.specs.Iter.{iter}
use Rattle.kinds.specs.Rule.{Brought, Frame, State, state_by}
use Rattle.kinds.specs.Cell.{values_of, cell_of, number_of, fresh_cell, number_fits, step_cell}
use Rattle.kinds.specs.History.{state_of}
use Rattle.kinds.specs.declared.kind.NodeKind.TheVariants.{Pass}
use Rattle.kinds.specs.declared.kind.NodeRecord.{NodeRecord}
use Rattle.kinds.proofs.Kept.{Judged, fits_judged, fits_kept}
use Rattle.kinds.proofs.Fresh as fresh
use Rattle.kinds.proofs.HistoryRules as histories
use Rattle.kinds.proofs.Unread.{line_after_long}
use Rattle.reading.specs.Table.{All}
use Rattle.reading.specs.Order.{Wire}
use Rattle.reading.specs.Effect.{Effect, run, set, rewire}
use Rattle.reading.specs.Board.{Orderly, Board, Leaves, Proper}
use Rattle.reading.specs.Encode.{Encodes}
use Rattle.reading.specs.Keeps.{MaySet, Lawful}
use Rattle.boards.specs.Board.{blank, Parsed}
use Rattle.boards.specs.BoardParts.{wired as with_wires}
use Rattle.memory.specs.Memory.{kind_at}
use Rattle.samples.specs.Instance.{net_of, board_with, brought_from, memory_rules, memory_with, reading_rules, reading_with, Held}
use Rattle.memory.specs.Fine.{Fine}
use Rattle.memory.proofs.FineBoard.{source_there, lists}
use Rattle.samples.proofs.ShownCall.{NumberFits}

module _ (p : Parsed) (fine : Fine p) where
  pub net_orderly : Orderly (net_of p)
  net_orderly = record {
    no_self = λ k s e. (source_there p fine k s e).1;
    once = (lists p fine).once;
    input_first = λ k m s. not-false _ ((lists p fine).input_first p.input fine.input_free k m s);
  }

  -- ---- the rules

  -- past the last node all are passes
  beyond : (k : ℕ) → (k < length p.nodes → ⊥) → kind_at p k ≡ Pass
  beyond k h = ap (λ (r : NodeRecord). r.kind) (get_or-eq_default p.nodes blank (omega arith))

  -- every kind's line and first number are as they must be
  kind_sound : (k : ℕ) → fresh.FreshFits (kind_at p k)
  kind_sound k = go (dec_lt k (length p.nodes))
    where
      pass_sound : fresh.FreshFits Pass
      pass_sound = unfold number_fits number_of to_bits in record { line = tt; number = refl }

      go : Dec (k < length p.nodes) → fresh.FreshFits (kind_at p k)
      go (yes h) = record { line = (fine.nodes k h).line; number = (fine.nodes k h).number }
      go (no h) = subst fresh.FreshFits (sym (beyond k h)) pass_sound

  pub encodes : Encodes (memory_rules p) (reading_rules p) (λ k. state_of (kind_at p k))
  unfolding memory_rules reading_rules
  encodes = histories.rules_encode (kind_at p) (brought_from p) p.size (λ k. (kind_sound k).line)

  -- ---- what holds of a state all along

  fresh_held : (k : ℕ) → Held (kind_at p k) (fresh_cell p.size (kind_at p k)).state
  unfolding fresh_cell cell_of values_of
  fresh_held k =
      let cell = fresh_cell p.size (kind_at p k) in
      let j = fits_judged (kind_at p k) p.size (values_of cell) (fresh.fresh_fits p.size (kind_at p k) (kind_sound k)) in
      record { long = length-replicate (line_of (kind_at p k)) 0; number = j.number; carry = j.carry; place = j.place }

  step_held : (k : ℕ) (s : State) (b : Brought) → Held (kind_at p k) s → Held (kind_at p k) (state_by (kind_at p k) s b)
  unfolding iter step_cell state_by
  step_held k s b h =
      let j : Judged (kind_at p k) s = record { number = h.number; carry = h.carry; place = h.place } in
      let after = fits_kept (kind_at p k) 0 (λ i. b) 1 (record { state = s; samples = [] }) j in
      record {
        long = line_after_long (kind_at p k) s.place _ _ s.line ∙ h.long;
        number = after.number;
        carry = after.carry;
        place = after.place;
      }

-- ---- a board with p's nodes

-- What has to be known of the calls C on it and of the wirings W that they may leave: the first wiring, a wiring's wires, what a call does under
-- a wiring, and `Ok`, which holds of every wiring in force.
pub record Setting (C W : Type 0) (p : Parsed) : Type 1 where
  pub first : W
  pub wires : W → List Wire
  pub does : W → C → List (Effect W ℕ ℕ)
  pub Ok : W → Type 0
  pub fine : (w : W) → Ok w → Fine (with_wires p (wires w))
  pub start : Ok first
  pub leaves : (w : W) (c : C) → Ok w → All (Leaves Ok) (does w c)
  pub in_range : (w : W) (c : C) → Ok w → All (NumberFits p) (does w c)

module _ {C W : Type 0} (p : Parsed) (S : Setting C W p) where
  abbrev pub board_of : Board C W ℕ Frame ℕ
  board_of = board_with p S.first S.wires S.does

  pub board_sound : Proper (board_with p S.first S.wires S.does) S.Ok
  board_sound = record {
    first = S.start;
    kept = S.leaves;
    each = λ w h. let n = net_orderly (with_wires p (S.wires w)) (S.fine w h) in record { no_self = n.no_self; once = n.once; input_first = n.input_first };
  }

  pub rules_encode : (w : W) → S.Ok w → Encodes (memory_with p S.wires w) (reading_with p S.wires w) (λ k. state_of (kind_at p k))
  rules_encode w h = encodes (with_wires p (S.wires w)) (S.fine w h)

  set_held : (es : List (Effect W ℕ ℕ)) → All (NumberFits p) es → All (MaySet board_of (memory_with p S.wires) S.Ok (λ k. Held (kind_at p k))) es
  unfolding memory_rules
  set_held [] fs = tt
  set_held (run xs ∷ es) fs = (tt, set_held es fs.1)
  set_held (set k v ∷ es) fs =
      (λ x h. record { long = h.long; number = fs.0; carry = h.carry; place = h.place }, set_held es fs.1)
  set_held (rewire v ∷ es) fs = (tt, set_held es fs.1)

  pub rules_lawful : Lawful (board_with p S.first S.wires S.does) (memory_with p S.wires) S.Ok (λ k. Held (kind_at p k))
  unfolding memory_rules
  rules_lawful = record {
    fresh = fresh_held (with_wires p (S.wires S.first)) (S.fine S.first S.start);
    step = λ w h k i s held b kept. step_held (with_wires p (S.wires w)) (S.fine w h) k s (brought_from (with_wires p (S.wires w)) k b) kept;
    set = λ w h c. set_held (S.does w c) (S.in_range w c h);
  }
