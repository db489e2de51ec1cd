-- `allpass::apfmsgain::Filter::modulate` meets its contract: the neighbours that it reads are those of the rule. Assumes nothing.
use mathlib.Core.Path.{◌≡◌, refl, sym, ap, ◌∙◌}
use mathlib.Core.List.{List}
use Prim.Native.Nat.{ℕ, ◌+◌, ◌%◌, ◌<◌}
use native.Mathlib.Omega.{arith}
use lib.ListN.{length, set}
use lib.Ieee.{Float, binary32, of_bits, to_bits}
use Rattle.values.specs.Words.{words, length-words}
use Rattle.values.specs.Floats.{float_at}
use Rattle.leaves.specs.Position.{position_of}
use Rattle.kinds.specs.Kind.{cell_size, samples_from, number_index}
use Rattle.kinds.specs.Rule.{all_pass, between, tap, get}
use Rattle.effects.specs.Block.{sample, Split, pair}
use Rattle.effects.specs.Ring.{wrap_of, stretch_values}
use Rattle.kinds.specs.declared.kind.NodeKind.TheVariants.{AllPass}
use Rattle.effects.proofs.Rings.{wrap_below, all_pass-ring, stretch_none, float_at_lem, tap-two, all_pass_reads, all_pass_then}
use Rattle.allpass.proofs.apfmsgain.Filter.modulate.Goals as goal

-- the sample: what it reads, its output and its three stores
sample_by_lem : (n size place i : ℕ) (f : Float) (x m : List Float) (ws us ts rs : List ℕ) (g a b o rest : Float) (index older newer y : ℕ)
    → Split (position_of (sample m i) n) index rest
    → (older ≡ (place + index) % n) × (older < n)
    → newer ≡ wrap_of (older + 1) n
    → a ≡ between (float_at ws (samples_from + size + older)) (float_at ws (samples_from + size + newer)) rest
    → b ≡ between (float_at ws (samples_from + size + n + older)) (float_at ws (samples_from + size + n + newer)) rest
    → o ≡ all_pass g (sample x i) a b
    → y ≡ to_bits binary32 o
    → us ≡ set ws (samples_from + size + place) (to_bits binary32 (sample x i))
    → ts ≡ set us (samples_from + size + n + place) y
    → rs ≡ set ts (samples_from + i) y
    → g ≡ float_at ws number_index → length ws ≡ cell_size size (AllPass n f) → place < n → i < size
    → rs ≡ stretch_values (AllPass n f) size (pair x m) place i 1 ws
sample_by_lem n size place i f x m ws us ts rs g a b o rest index older newer y e-at e-older e-newer e-a e-b e-o e-y e-us e-ts e-rs e-g long in-ring in_block =
    all_pass_then n f size (pair x m) ws place i 0 i _ y _ _ _ ws us ts rs (stretch_none (AllPass n f) n (all_pass-ring n f) size (pair x m) ws long place i)
    e-us e-ts e-rs refl (λ q c h v.
    let s = c.state in
    let here : place ≡ s.place = omega (arith, h.place) in
    let read : (from at : ℕ) (z : Float) → at ≡ samples_from + size + from
    → z ≡ between (float_at ws (at + older)) (float_at ws (at + newer)) rest → z ≡ tap n (pair x m i) (get n from s) =
    λ from at z e-from e-z.
    e-z
    ∙ (λ t. between (float_at_lem size q c h.samples ws v (from + older) (at + older) (omega arith) t)
    (float_at_lem size q c h.samples ws v (from + newer) (at + newer) (omega arith) t) rest)
    ∙ tap-two n from s (pair x m i) index older newer rest refl e-at.0 e-at.1 (e-older.0 ∙ ap (λ (p : ℕ). (p + index) % n) here)
    e-newer e-older.1 in
    e-y
    ∙ ap (to_bits binary32)
    (e-o ∙ all_pass_reads n f s (pair x m i) g a b (e-g ∙ ap (of_bits binary32) (sym h.number))
    (read 0 (samples_from + size) a (omega arith) e-a) (read n (samples_from + size + n) b refl e-b)))
    long (omega arith) in_block (omega arith) (omega arith) (omega arith) refl

pub between-old_x-requires : goal.between-old_x-requires
between-old_x-requires c =
    let a = c.args in
    let newer = wrap_below a.self.n (c.wrapped-older.result + 1) (omega arith) in
    (omega arith, omega (arith, c.wrap-newer.ensures, newer))

pub between-old_y-requires : goal.between-old_y-requires
between-old_y-requires c =
    let a = c.args in
    let newer = wrap_below a.self.n (c.wrapped-older.result + 1) (omega arith) in
    (omega arith, omega (arith, c.wrap-newer.ensures, newer))

pub returns : goal.returns
returns c f m e =
    let a = c.args in
    sample_by_lem a.self.n (length a.x.now) a.place a.i f a.x.now m (words a.cell.now) _ _ _ _ _ _ _ _ _ _ _ _ e
    c.wrapped-older.ensures c.wrap-newer.ensures c.between-old_x.ensures c.between-old_y.ensures
    c.output.ensures c.to_bits-y.ensures c.store.ensures c.put_word.ensures c.put_word-2.ensures
    c.requires.0.gain (omega (arith, length-words a.cell.now, c)) (omega (arith, c)) (omega (arith, c))
