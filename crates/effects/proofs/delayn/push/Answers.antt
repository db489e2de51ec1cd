-- `effects::delayn::push` meets its contract: after some samples the values are those of the rule. Assumes nothing.
use mathlib.Core.Path.{◌≡◌, refl, sym, ap, ◌∙◌}
use mathlib.Core.List.{List, [], ◌∷◌, map}
use Prim.Native.Nat.{ℕ, zero, suc, ◌+◌, ◌*◌, ◌/◌, ◌≤◌, ◌<◌}
use native.Mathlib.Omega.{arith}
use lib.ListN.{length, set}
use lib.Ieee.{Float, binary32, of_bits, to_bits}
use Rattle.values.specs.Words.{words, length-words}
use Rattle.values.specs.Floats.{float_at, floats_at, set_float, set_four}
use Rattle.kinds.specs.Iter.{iter}
use Rattle.kinds.specs.Kind.{cell_size, samples_from}
use Rattle.effects.specs.Block.{sample, stored, alone}
use Rattle.effects.specs.Ring.{stretch_values}
use Rattle.kinds.specs.declared.kind.NodeKind.TheVariants.{Delay}
use Rattle.effects.proofs.Rings.{delay_ring, stretch_none, stretch_then, delay_reads, float_at_lem, delay_turn}
use Rattle.effects.proofs.Woven.{two_at, stored_four, woven_two, kept_two}
use Rattle.effects.proofs.delayn.push.Goals as goal

module _ (n size place done : ℕ) (x : List Float) (ws : List ℕ) (long : length ws ≡ cell_size size (Delay n)) where
  abbrev after : ℕ → List ℕ
  after i = stretch_values (Delay n) size (alone x) place done i ws

  -- the two stores of a sample, `old` being what was read before them
  turn : (i at j out : ℕ) (vs us ts : List ℕ) (old : Float) → vs ≡ after i
      → old ≡ float_at vs at → us ≡ set_float vs at (sample x j) → ts ≡ set_float us out old
      → place + i < n → j < size → at ≡ samples_from + size + place + i → j ≡ done + i → out ≡ samples_from + j
      → ts ≡ after (i + 1)
  turn i at j out vs us ts old e e-old e-us e-ts a b e-at e-j e-out =
      stretch_then (Delay n) n (delay_ring n) size (alone x) ws long place done i j a e-j vs ts e (λ q c h v.
      let to : at ≡ samples_from + size + c.state.place = omega (arith, h.place) in
      let reads = e-old ∙ float_at_lem size q c h.samples vs v c.state.place at to in
      e-ts
      ∙ ap (λ (l : List ℕ). set_float l out old) e-us
      ∙ delay_turn size q c h.samples vs v (alone x) j b at out to e-out n _ _ refl
      (ap (to_bits binary32) (reads ∙ delay_reads n c.state (alone x j) (omega (arith, h.place)))))

  -- samples from sample i on, whose old values are all read before the first store
  module _ (i at k out : ℕ) (vs : List ℕ) (e : vs ≡ after i)
      (e-at : at ≡ samples_from + size + place + i) (e-k : k ≡ done + i) (e-out : out ≡ samples_from + k) where
    abbrev new : ℕ → Float
    new j = sample x (k + j)

    abbrev old : ℕ → Float
    old j = float_at vs (at + j)

    turns : (m : ℕ) → place + i + m ≤ n → k + m ≤ size → iter (two_at new at old out) m vs ≡ after (i + m)
    unfolding iter
    turns zero a b = let all : i ≡ i + 0 = omega arith in e ∙ ap after all
    turns (suc m) a b =
        let all : i + m + 1 ≡ i + suc m = omega arith in
        let reads = ap (of_bits binary32) (sym (kept_two new at old out m vs (at + m) (λ j h e. omega arith) (λ j h e. omega arith))) in
        turn (i + m) (at + m) (k + m) (out + m) _ _ _ (old m) (turns m (omega arith) (omega arith)) reads refl refl
        (omega arith) (omega arith) (omega arith) (omega arith) (omega arith)
        ∙ ap after all

    -- four at once, each list of them stored whole
    four : (us ts : List ℕ) (olds : List Float) → place + i + 4 ≤ n → k + 4 ≤ size → olds ≡ floats_at vs at
        → us ≡ set_four vs at (map (to_bits binary32) (sample x k ∷ sample x (k + 1) ∷ sample x (k + 2) ∷ sample x (k + 3) ∷ []))
        → ts ≡ set_four us out (map (to_bits binary32) olds)
        → ts ≡ after (i + 4)
    four us ts olds a b e-old e-us e-ts =
        let first : (j : ℕ) → j ≡ j + 0 = λ j. omega arith in
        e-ts
        ∙ (λ j. set_four (e-us j) out (map (to_bits binary32) (e-old j)))
        ∙ stored_four old out _ (ap (float_at vs) (first at)) refl refl refl
        ∙ ap (stored old out 4) (stored_four new at vs (ap (sample x) (first k)) refl refl refl)
        ∙ woven_two new at old out 4 vs (λ j l h k e. omega arith)
        ∙ turns 4 a b

pub loop-group-init : goal.loop-group-init
loop-group-init c = (refl, λ n e. stretch_none (Delay n) n (delay_ring n) _ _ _ (omega (arith, length-words c.args.cell.now, e)) _ _)

pub loop-group-preserved : goal.loop-group-preserved
loop-group-preserved c =
    let a = c.args in
    let i = 4 * c.loop-group.group in
    let next : i + 4 ≡ 4 * (c.loop-group.group + 1) = omega arith in (
      omega arith,
      λ n e.
          four n (length a.x.now) a.place a.done a.x.now (words a.cell.now) (omega (arith, length-words a.cell.now, e))
          i (samples_from + length a.x.now + a.place + i) (a.done + i) (samples_from + (a.done + i)) (words c.loop-group.cell) (c.loop-group.invariant.1 n e) refl refl refl
          _ _ _ (omega arith) (omega arith) c.load_four-old.ensures c.store_four.ensures c.store_four-in-loop-group.ensures
          ∙ ap (after n (length a.x.now) a.place a.done a.x.now (words a.cell.now) (omega (arith, length-words a.cell.now, e))) next,
    )

pub loop-j-preserved : goal.loop-j-preserved
loop-j-preserved c =
    let a = c.args in
    let i = a.count / 4 * 4 + c.loop-j.j in
    let next : i + 1 ≡ a.count / 4 * 4 + (c.loop-j.j + 1) = omega arith in (
      omega arith,
      λ n e.
          turn n (length a.x.now) a.place a.done a.x.now (words a.cell.now) (omega (arith, length-words a.cell.now, e))
          i _ (a.done + i) _ (words c.loop-j.cell) _ _ (of_bits binary32 c.word_at-old.result) (c.loop-j.invariant.1 n e) (ap (of_bits binary32) c.word_at-old.ensures) c.store.ensures
          (c.put_word.ensures ∙ ap (set (words c.store.new.mem) _) c.canonical.ensures)
          (omega arith) (omega arith) refl refl refl
          ∙ ap (after n (length a.x.now) a.place a.done a.x.now (words a.cell.now) (omega (arith, length-words a.cell.now, e))) next,
    )
