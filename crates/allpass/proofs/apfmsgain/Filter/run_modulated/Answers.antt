-- `allpass::apfmsgain::Filter::run_modulated` meets its contract: each sample is a stretch of one, for every second source that has the positions
-- that were split. Assumes nothing.
use mathlib.Core.Path.{◌≡◌, refl, ap, ◌∙◌}
use mathlib.Core.List.{List}
use Prim.Native.Nat.{ℕ, ◌<◌}
use native.Mathlib.Omega.{arith}
use lib.ListN.{length, get_or, length-replicate}
use lib.Ieee.{Float}
use Rattle.effects.specs.Block.{sample, fill, positioned, Split}
use Rattle.effects.proofs.Filled.{length-fill}
use Rattle.effects.proofs.Rings.{all_pass-ring, going_none, going_number, going_then, going_end}
use Rattle.allpass.proofs.Positions.{Of, split_all, small, floor_in}
use Rattle.allpass.proofs.apfmsgain.Filter.run_modulated.Goals as goal

pub splits-requires : goal.splits-requires
splits-requires c =
    let a = c.args in
    let long : length c.positions.new.m ≡ length a.m.now = ap length c.positions.ensures ∙ length-fill (positioned a.m.now a.self.n) (length a.m.now) a.m.now in (
      omega (arith, length-replicate {A = ℕ} 128 0, c.requires.0.small),
      λ j h. small a.self.n (length a.m.now) a.m.now _ (omega arith) c.positions.ensures c.requires.0.line j (omega arith),
    )

pub loop-i-init : goal.loop-i-init
loop-i-init c =
    let lent = c.requires.0 in
    (omega arith, omega arith, refl, λ second _. going_none (all_pass-ring _) (λ f. omega arith) c.word_at-place.ensures (omega arith))

-- floors and rests are those of the positions of m
module _ (n : ℕ) (x m p : List Float) (floors : List ℕ) (rests : List Float) where
  own : p ≡ fill (positioned m n) (length m) m → length m ≡ length x
      → ((j : ℕ) → j < length p → Split (sample p j) (get_or floors j 0) (sample rests j)) → Of n (length x) floors rests m
  own e long s =
      let as_long : length p ≡ length x = ap length e ∙ length-fill (positioned m n) (length m) m ∙ long in
      split_all n (length x) m p (omega arith) (e ∙ ap (λ (j : ℕ). fill (positioned m n) j m) long) floors rests (λ j h. s j (omega arith))

pub modulate-requires : goal.modulate-requires
modulate-requires c =
    let a = c.args in
    let lent = c.requires.0 in
    let of = own a.self.n a.x.now a.m.now _ _ _ c.positions.ensures c.requires.2 c.splits.ensures in (
      record { small = lent.small; line = lent.line; whole = omega arith; gain = going_number (c.loop-i.invariant.3 a.m.now of) lent.gain },
      c.loop-i-test.true,
      c.loop-i.invariant.1,
      floor_in a.self.n (length a.x.now) _ _ a.m.now lent.line of c.loop-i.i c.loop-i-test.true,
    )

pub loop-i-preserved : goal.loop-i-preserved
loop-i-preserved c =
    let a = c.args in
    let of = own a.self.n a.x.now a.m.now _ _ _ c.positions.ensures c.requires.2 c.splits.ensures in
    let more = λ (second : List Float) (of : Of a.self.n (length a.x.now) c.splits.new.floors c.splits.new.p second).
    going_then (c.loop-i.invariant.3 second of) 1 (omega arith) (omega arith) c.modulate.auto.cell
    (λ f. c.modulate.ensures f second (of c.loop-i.i c.loop-i-test.true)) c.wrap-place.ensures in
    let known = more a.m.now of in
    (omega arith, known.below, known.long, more)

pub returns : goal.returns
returns c f =
    let a = c.args in
    let of = own a.self.n a.x.now a.m.now _ _ _ c.positions.ensures c.requires.2 c.splits.ensures in
    going_end (c.loop-i.invariant.3 a.m.now of) c.loop-i-test.false c.put_word.ensures f
