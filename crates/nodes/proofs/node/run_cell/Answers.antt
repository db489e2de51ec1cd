-- `nodes::node::run_cell` meets its contract: in each arm the kind is known, and the type's run is its run on what the wires bring.
-- Assumes nothing.
use mathlib.Core.Path.{◌≡◌, refl, sym, ap, subst, ◌∙◌}
use mathlib.Core.Logic.{◌⊎◌, inl, inr}
use mathlib.Core.List.{List, [], ◌∷◌}
use Prim.Native.Nat.{ℕ, ◌+◌}
use lib.ListN.{length}
use Rattle.values.specs.Words.{words}
use Rattle.kinds.specs.Kind.{samples_from}
use Rattle.effects.specs.Block.{put_block}
use native.Mathlib.Omega.{arith}
use denote.Enum.Declared.{tag_of}
use lib.Ieee.{Float}
use Rattle.nodes.specs.Ready.{CellReady}
use Rattle.kinds.specs.declared.kind.NodeKind.{NodeKind}
use Rattle.kinds.specs.declared.kind.NodeKind.TheVariants.{Destination, Balance}
use Rattle.kinds.specs.contracts.kind.NodeKind.{the_type}
use Rattle.nodes.proofs.Alike.{mul_reads, add_reads, delay_reads, all_pass_reads, one_pole_reads, sine_reads}
use Rattle.kinds.proofs.Arms.{Among}
use Rattle.nodes.proofs.Supplied.{Runs, delay_place, all_pass_place, sine_ranges, sum_runs, stereo_runs, pass_runs, pass_kept, at_least, pair_runs, one_runs, given_runs, alone_runs, nothing_runs}
use Rattle.nodes.proofs.node.run_cell.Goals as goal

-- in the arm of the type k, what is required of a cell, and what is to be shown of what is left of it
module _ {cell : List ℕ} {kind k : NodeKind} {size count : ℕ} (e : kind ≡ k) (r : CellReady cell kind size count) where
  ready : CellReady cell k size count
  ready = subst (λ (j : NodeKind). CellReady cell j size count) e r

  told : {x m : List Float} {vs : List ℕ} → (CellReady cell k size count → Runs cell size count x m vs k) → Runs cell size count x m vs kind
  told {x} {m} {vs} f = subst (λ (j : NodeKind). Runs cell size count x m vs j) (sym e) (f ready)

stereo : (k : NodeKind) → (k ≡ Destination) ⊎ (k ≡ Balance) → Among (2 ∷ 3 ∷ []) k
stereo k (inl e) = inl (ap (tag_of the_type) e)
stereo k (inr e) = inr (ap (tag_of the_type) e)

pub delay-requires : goal.delay-requires
delay-requires c = let r = ready c.in-Delay.is c.requires.0 in omega (arith, delay_place r)

pub all_pass-requires : goal.all_pass-requires
all_pass-requires c = let r = ready c.in-AllPass.is c.requires.0 in omega (arith, all_pass_place r)

pub all_pass_modulated-requires : goal.all_pass_modulated-requires
all_pass_modulated-requires c = let r = ready c.in-AllPass.is c.requires.0 in omega (arith, all_pass_place r)

pub sin_osc-requires-clause-in_band : goal.sin_osc-requires-clause-in_band
sin_osc-requires-clause-in_band c = sine_ranges (ready c.in-Sine.is c.requires.0)

pub returns-then-count-gt0 : goal.returns-then-count-gt0
returns-then-count-gt0 c = told c.in-Pass.is c.requires.0 (λ r. pass_runs r c.if-count-gt0.true c.put.ensures)

pub returns-else-count-gt0 : goal.returns-else-count-gt0
returns-else-count-gt0 c = told c.in-Pass.is c.requires.0 (λ r. pass_kept r (omega (arith, c.if-count-gt0.false)) refl)

pub returns-in-Sum : goal.returns-in-Sum
returns-in-Sum c = told c.in-Sum.is c.requires.0 (λ r. sum_runs r c.put-in-Sum.ensures)

pub returns-in-Destination : goal.returns-in-Destination
returns-in-Destination c =
    stereo_runs (stereo c.args.kind c.in-Destination.is) c.requires.0 c.put-in-Destination.ensures
    (c.put-in-Destination-2.ensures ∙ ap (λ (n : ℕ). put_block c.args.m.now (samples_from + length c.args.x.now) n (words c.put-in-Destination.new.cell)) c.requires.1)

pub returns-in-Mul : goal.returns-in-Mul
returns-in-Mul c = told c.in-Mul.is c.requires.0 (λ r. given_runs (mul_reads _) r (omega arith) c.second_of.ensures (c.mul.ensures _))

pub returns-in-Add : goal.returns-in-Add
returns-in-Add c = told c.in-Add.is c.requires.0 (λ r. given_runs (add_reads _) r (omega arith) c.second_of-in-Add.ensures (c.add.ensures _))

pub returns-in-Delay : goal.returns-in-Delay
returns-in-Delay c = told c.in-Delay.is c.requires.0 (λ r. alone_runs (delay_reads _) r refl refl c.delay.ensures)

pub returns-then-count-gt1 : goal.returns-then-count-gt1
returns-then-count-gt1 c = told c.in-AllPass.is c.requires.0 (λ r. pair_runs (all_pass_reads _ _) r c.if-count-gt1.true (c.all_pass_modulated.ensures _))

pub returns-else-count-gt1 : goal.returns-else-count-gt1
returns-else-count-gt1 c =
    told c.in-AllPass.is c.requires.0 (λ r. one_runs (all_pass_reads _ _) r (omega (arith, at_least r, c.if-count-gt1.false)) (c.all_pass.ensures _))

pub returns-in-OnePole : goal.returns-in-OnePole
returns-in-OnePole c = told c.in-OnePole.is c.requires.0 (λ r. alone_runs (one_pole_reads _) r refl refl c.one_pole.ensures)

pub returns-in-Sine : goal.returns-in-Sine
returns-in-Sine c = told c.in-Sine.is c.requires.0 (λ r. nothing_runs (sine_reads _) r refl (c.sin_osc.ensures _))
