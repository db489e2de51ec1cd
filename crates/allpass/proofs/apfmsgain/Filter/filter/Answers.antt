-- `allpass::apfmsgain::Filter::filter` meets its contract: after some samples the values are those of the rule. Assumes nothing.
use mathlib.Core.Path.{◌≡◌, refl, sym, ap, ◌∙◌}
use mathlib.Core.List.{List, [], ◌∷◌, map}
use Prim.Native.Nat.{ℕ, zero, suc, ◌+◌, ◌*◌, ◌/◌, ◌≤◌, ◌<◌}
use native.Mathlib.Omega.{arith}
use lib.ListN.{length, get_or, set}
use lib.Ieee.{Float, nan, binary32, of_bits, to_bits}
use Rattle.values.specs.Words.{words, length-words}
use Rattle.values.specs.Floats.{float_at, floats_at, set_float, set_four}
use Rattle.kinds.specs.Iter.{iter}
use Rattle.kinds.specs.Kind.{cell_size, samples_from, number_index}
use Rattle.kinds.specs.Rule.{all_pass}
use Rattle.effects.specs.Block.{sample, stored, alone}
use Rattle.effects.specs.Ring.{stretch_values}
use Rattle.kinds.specs.declared.kind.NodeKind.TheVariants.{AllPass}
use Rattle.effects.proofs.Rings.{all_pass-ring, stretch_none, float_at_lem, tap_one, all_pass_reads, all_pass_then}
use Rattle.effects.proofs.Woven.{three_at, stored_four, woven_three, kept_three}
use Rattle.allpass.proofs.apfmsgain.Filter.filter.Goals as goal

module _ (n size place done : ℕ) (f g : Float) (x : List Float) (ws : List ℕ) (long : length ws ≡ cell_size size (AllPass n f)) (e-g : g ≡ float_at ws number_index) where
  abbrev after : ℕ → List ℕ
  after i = stretch_values (AllPass n f) size (alone x) place done i ws

  -- a sample: what it reads, its output and its three stores
  turn : (i at at_y j out : ℕ) (vs us ts rs : List ℕ) (a b y : Float) → vs ≡ after i
      → a ≡ float_at vs at → b ≡ float_at vs at_y → y ≡ all_pass g (sample x j) a b
      → us ≡ set_float vs at (sample x j) → ts ≡ set_float us at_y y → rs ≡ set_float ts out y
      → place + i < n → j < size → at ≡ samples_from + size + place + i → at_y ≡ samples_from + size + place + n + i → j ≡ done + i → out ≡ samples_from + j
      → rs ≡ after (i + 1)
  turn i at at_y j out vs us ts rs a b y e e-a e-b e-y e-us e-ts e-rs in-ring in_block e-at e-at-y e-j e-out =
      all_pass_then n f size (alone x) ws place done i j _ (to_bits binary32 y) at at_y out vs us ts rs e e-us e-ts e-rs refl (λ q c h v.
      let below : c.state.place < n = omega (arith, h.place) in
      let old-x = e-a ∙ float_at_lem size q c h.samples vs v (0 + c.state.place) at (omega (arith, h.place)) ∙ tap_one n 0 c.state (alone x j) refl below in
      let old-y = e-b ∙ float_at_lem size q c h.samples vs v (n + c.state.place) at_y (omega (arith, h.place)) ∙ tap_one n n c.state (alone x j) refl below in
      ap (to_bits binary32) (e-y ∙ all_pass_reads n f c.state (alone x j) g a b (e-g ∙ ap (of_bits binary32) (sym h.number)) old-x old-y))
      long in-ring in_block e-j (omega arith) (omega arith) e-out

  -- samples from sample i on, whose old values are all read before the first store
  module _ (i at at_y k out : ℕ) (vs : List ℕ) (e : vs ≡ after i) (e-at : at ≡ samples_from + size + place + i)
      (e-at-y : at_y ≡ samples_from + size + place + n + i) (e-k : k ≡ done + i) (e-out : out ≡ samples_from + k) where
    abbrev new : ℕ → Float
    new j = sample x (k + j)

    abbrev output : ℕ → Float
    output j = all_pass g (new j) (float_at vs (at + j)) (float_at vs (at_y + j))

    turns : (m : ℕ) → place + i + m ≤ n → k + m ≤ size → iter (three_at new at output at_y output out) m vs ≡ after (i + m)
    unfolding iter
    turns zero a b = let all : i ≡ i + 0 = omega arith in e ∙ ap after all
    turns (suc m) a b =
        let all : i + m + 1 ≡ i + suc m = omega arith in
        let reads-x = kept_three new at output at_y m vs output out (at + m) (λ j h q. omega arith) (λ j h q. omega arith) (λ j h q. omega arith) in
        let reads-y = kept_three new at output at_y m vs output out (at_y + m) (λ j h q. omega arith) (λ j h q. omega arith) (λ j h q. omega arith) in
        turn (i + m) (at + m) (at_y + m) (k + m) (out + m) _ _ _ _ _ _ (output m) (turns m (omega arith) (omega arith))
        (ap (of_bits binary32) (sym reads-x)) (ap (of_bits binary32) (sym reads-y)) refl refl refl refl
        (omega arith) (omega arith) (omega arith) (omega arith) (omega arith) (omega arith)
        ∙ ap after all

    -- four at once, each list of them stored whole
    four : (us ts rs : List ℕ) (olds-x olds-y : List Float) (p q r s : Float) → place + i + 4 ≤ n → k + 4 ≤ size → olds-x ≡ floats_at vs at → olds-y ≡ floats_at vs at_y
        → p ≡ all_pass g (sample x k) (get_or olds-x 0 nan) (get_or olds-y 0 nan)
        → q ≡ all_pass g (sample x (k + 1)) (get_or olds-x 1 nan) (get_or olds-y 1 nan)
        → r ≡ all_pass g (sample x (k + 2)) (get_or olds-x 2 nan) (get_or olds-y 2 nan)
        → s ≡ all_pass g (sample x (k + 3)) (get_or olds-x 3 nan) (get_or olds-y 3 nan)
        → us ≡ set_four vs at (map (to_bits binary32) (sample x k ∷ sample x (k + 1) ∷ sample x (k + 2) ∷ sample x (k + 3) ∷ []))
        → ts ≡ set_four us at_y (map (to_bits binary32) (p ∷ q ∷ r ∷ s ∷ [])) → rs ≡ set_four ts out (map (to_bits binary32) (p ∷ q ∷ r ∷ s ∷ []))
        → rs ≡ after (i + 4)
    four us ts rs olds-x olds-y p q r s a b e-x e-y e-p e-q e-r e-s e-us e-ts e-rs =
        let first : (j : ℕ) → j ≡ j + 0 = λ j. omega arith in
        let first-p : p ≡ output 0 =
        e-p
        ∙ (λ t. all_pass g (sample x (first k t)) (get_or (e-x t) 0 nan) (get_or (e-y t) 0 nan))
        ∙ (λ t. all_pass g (sample x (k + 0)) (float_at vs (first at t)) (float_at vs (first at_y t))) in
        let next-q : q ≡ output 1 = e-q ∙ (λ t. all_pass g (new 1) (get_or (e-x t) 1 nan) (get_or (e-y t) 1 nan)) in
        let next-r : r ≡ output 2 = e-r ∙ (λ t. all_pass g (new 2) (get_or (e-x t) 2 nan) (get_or (e-y t) 2 nan)) in
        let next-s : s ≡ output 3 = e-s ∙ (λ t. all_pass g (new 3) (get_or (e-x t) 3 nan) (get_or (e-y t) 3 nan)) in
        e-rs
        ∙ stored_four output out ts first-p next-q next-r next-s
        ∙ ap (stored output out 4)
        (e-ts
        ∙ stored_four output at_y us first-p next-q next-r next-s
        ∙ ap (stored output at_y 4) (e-us ∙ stored_four new at vs (ap (sample x) (first k)) refl refl refl))
        ∙ woven_three new at output at_y 4 vs output out (λ j l h m q. omega arith) (λ j l h m q. omega arith) (λ j l h m q. omega arith)
        ∙ turns 4 a b

pub loop-group-init : goal.loop-group-init
loop-group-init c = (refl, λ f. stretch_none (AllPass _ f) _ (all_pass-ring _ f) _ _ _ (omega (arith, length-words c.args.cell.now)) _ _)

pub loop-group-preserved : goal.loop-group-preserved
loop-group-preserved c =
    let a = c.args in
    let i = 4 * c.loop-group.group in
    let at : ℕ = samples_from + length a.x.now + a.place in
    let next : i + 4 ≡ 4 * (c.loop-group.group + 1) = omega arith in (
      omega (arith, c),
      λ f.
          four a.self.n (length a.x.now) a.place a.done f a.self.g a.x.now (words a.cell.now) (omega (arith, length-words a.cell.now, c)) c.requires.0.gain
          i (at + i) (at + a.self.n + i) (a.done + i) (samples_from + (a.done + i)) (words c.loop-group.cell) (c.loop-group.invariant.1 f) refl refl refl refl
          _ _ _ _ _ _ _ _ _ (omega (arith, c)) (omega (arith, c)) c.load_four-old_x.ensures c.load_four-old_y.ensures
          c.output.ensures c.output-in-loop-group.ensures c.output-in-loop-group-2.ensures c.output-in-loop-group-3.ensures
          c.store_four.ensures c.store_four-in-loop-group.ensures c.store_four-in-loop-group-2.ensures
          ∙ ap (after a.self.n (length a.x.now) a.place a.done f a.self.g a.x.now (words a.cell.now) (omega (arith, length-words a.cell.now, c)) c.requires.0.gain) next,
    )

pub loop-j-preserved : goal.loop-j-preserved
loop-j-preserved c =
    let a = c.args in
    let i = a.count / 4 * 4 + c.loop-j.j in
    let next : i + 1 ≡ a.count / 4 * 4 + (c.loop-j.j + 1) = omega arith in (
      omega (arith, c),
      λ f.
          turn a.self.n (length a.x.now) a.place a.done f a.self.g a.x.now (words a.cell.now) (omega (arith, length-words a.cell.now, c)) c.requires.0.gain
          i _ _ (a.done + i) _ (words c.loop-j.cell) _ _ _ _ _ c.output-in-loop-j.result (c.loop-j.invariant.1 f) c.load-old_x.ensures c.load-old_y.ensures c.output-in-loop-j.ensures
          c.store.ensures (c.put_word.ensures ∙ ap (set (words c.store.new.mem) _) c.to_bits-y.ensures) (c.put_word-in-loop-j.ensures ∙ ap (set (words c.put_word.new.mem) _) c.to_bits-y.ensures)
          (omega (arith, c)) (omega (arith, c)) refl refl refl refl
          ∙ ap (after a.self.n (length a.x.now) a.place a.done f a.self.g a.x.now (words a.cell.now) (omega (arith, length-words a.cell.now, c)) c.requires.0.gain) next,
    )
