-- The mix message.
--     mul_missing, mul_there     check 11 on the code's arrays
--     MixTold, mix_told          what holds where 11 and 12 pass
-- Assumes nothing.
use Prim.Native.Nat.{ℕ, ◌≤◌, ◌<◌}
use mathlib.Core.Path.{◌≡◌, ap, ◌∙◌}
use mathlib.Core.Bool.{Bool, true, false, cond, ◌&&◌}
use native.Mathlib.Omega.{arith}
use borrow.Author.Tests.{ltb-true, lt-ltb, le-ltb}
use lib.Dec.{ltb}
use lib.Ieee.{Float}
use lib.ListN.{length}
use Rattle.values.specs.Floors.{finite_f}
use Rattle.kinds.specs.declared.kind.NodeRecord.{NodeRecord}
use Rattle.records.specs.Answer.{answer}
use Rattle.boards.specs.Board.{Parsed}
use Rattle.memory.specs.Memory.{node_in, passed, kind_at}
use Rattle.memory.specs.Calls.{and_then}
use Rattle.boards.specs.Read.{parsed_of}
use Rattle.boards.specs.declared.board.Board.{Board}
use Rattle.memory.proofs.CallCells.{node_in_lem, count_nodes}
use Rattle.reading.proofs.Choice.{both}
use Rattle.memory.proofs.CallChecks.{passes, then_both}
use Rattle.mixing.specs.Mix.{is_mul, check_mul, check_finite, check_mix}

-- ---- check 11 on the code's arrays

module _ (b : Board) (k : ℕ) where
  abbrev p : Parsed
  p = parsed_of b

  pub mul_missing : b.count ≤ k → check_mul p k ≡ answer 11 k
  mul_missing h =
      let gone : ltb k (length p.nodes) ≡ false = le-ltb k (length p.nodes) (omega (arith, count_nodes b)) in
      λ i. cond (gone i && is_mul (kind_at p k)) passed (answer 11 k)

  pub mul_there : k < b.count → {t : Bool} → is_mul (node_in b.nodes k).kind ≡ t → check_mul p k ≡ cond t passed (answer 11 k)
  mul_there h e =
      let there : ltb k (length p.nodes) ≡ true = lt-ltb k (length p.nodes) (omega (arith, count_nodes b)) in
      let same = ap (λ (n : NodeRecord). is_mul n.kind) (node_in_lem b k h) ∙ e in
      λ i. cond (there i && same i) passed (answer 11 k)

-- ---- where the checks pass

module _ (p : Parsed) where
  -- node k is there, and is a mul
  abbrev pub MulAt : ℕ → Type 0
  MulAt k = (k < length p.nodes) × (is_mul (kind_at p k) ≡ true)

  mul_told : (k : ℕ) → (check_mul p k).number ≡ 0 → MulAt k
  mul_told k z =
      let e = (passes (ltb k (length p.nodes) && is_mul (kind_at p k)) passed (answer 11 k) (λ e. omega arith) z).0 in
      let two = both (ltb k (length p.nodes)) (is_mul (kind_at p k)) e in
      (ltb-true k (length p.nodes) two.0, two.1)

  pub record MixTold (mix : Float) : Type 0 where
    pub left_wet : MulAt 41
    pub right_wet : MulAt 47
    pub left_dry : MulAt 43
    pub right_dry : MulAt 49
    pub number : finite_f mix ≡ true

  pub mix_told : (mix : Float) → (check_mix p mix).number ≡ 0 → MixTold mix
  mix_told mix z =
      let a = then_both (check_mul p 41) (and_then (check_mul p 47) (and_then (check_mul p 43) (and_then (check_mul p 49) (check_finite mix)))) z in
      let b = then_both (check_mul p 47) (and_then (check_mul p 43) (and_then (check_mul p 49) (check_finite mix))) a.1 in
      let c = then_both (check_mul p 43) (and_then (check_mul p 49) (check_finite mix)) b.1 in
      let d = then_both (check_mul p 49) (check_finite mix) c.1 in
      record {
        left_wet = mul_told 41 a.0;
        right_wet = mul_told 47 b.0;
        left_dry = mul_told 43 c.0;
        right_dry = mul_told 49 d.0;
        number = (passes (finite_f mix) passed (answer 12 41) (λ e. omega arith) d.1).0;
      }
