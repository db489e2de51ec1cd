-- `wav::level::count_faults` meets its contract: one value more is counted as the test says. Assumes nothing.
use Rattle.std.proofs.Common.{◌≡◌, ℕ, ◌+◌, Bool, true, false, List, refl, sym, ap, subst, ◌∙◌, arith, add-one, length, ◌/◌}
use Rattle.std.specs.Prelude.{Float}
use Rattle.values.specs.Words.{words}
use Rattle.values.specs.Floats.{float_at}
use Rattle.wav.specs.declared.level.Count.{Count}
use Rattle.wav.specs.Level.{more, counted, Tells}
use Rattle.wav.proofs.level.count_faults.Goals as goal
use Rattle.wav.proofs.level.count_faults.Goals.{then-is_fault, else-is_fault}

next : (faulty : Float → Bool) (ws : List ℕ) (from i : ℕ) (before c c' : Count) (b : Bool) → b ≡ faulty (float_at ws i) → c ≡ counted faulty ws from before i
    → c' ≡ more b (from + i) c → c' ≡ counted faulty ws from before (i + 1)
unfolding counted
next faulty ws from i before c c' b told so_far one =
    rw (add-one i) (one ∙ ap (λ (t : Bool). more t (from + i) c) told ∙ ap (more (faulty (float_at ws i)) (from + i)) so_far)

pub loop-i-init : goal.loop-i-init
unfolding counted
loop-i-init g c = (omega arith, λ faulty tells. refl)

pub loop-i-preserved : goal.loop-i-preserved
loop-i-preserved g c =
    let l = c.loop-i in
    let answered = subst (λ (x : Float). goal.F-post g c.args.is_fault x c.is_fault.result) c.load.ensures c.is_fault.ensures in
    elim c.if-is_fault.branch [
      | then-is_fault w ↦ (
        omega (arith, ap (λ (x : Count). x.count) w.with-c.ensures, ap (λ (x : Count). x.count) w.c-is),
        λ faulty tells. next faulty _ _ _ _ l.c _ true (sym w.if-is_fault.true ∙ tells l.i _ (omega arith) answered) (l.invariant.1 faulty (λ k r h p. tells k r (omega arith) p)) (w.c-is ∙ w.with-c.ensures),
      )
      | else-is_fault w ↦ (
        omega (arith, ap (λ (x : Count). x.count) w.c-is),
        λ faulty tells. next faulty _ _ _ _ l.c _ false (sym w.if-is_fault.false ∙ tells l.i _ (omega arith) answered) (l.invariant.1 faulty (λ k r h p. tells k r (omega arith) p)) w.c-is,
      )
    ]

pub returns-clause-counted : goal.returns-clause-counted
returns-clause-counted g c =
    let all : c.loop-i.i ≡ length c.args.values.now / 4 = omega arith in
    subst (λ (n : ℕ). (faulty : Float → Bool) → Tells (goal.F-post g c.args.is_fault) faulty (words c.args.values.now) n
    → c.loop-i.c ≡ counted faulty (words c.args.values.now) c.args.from c.args.before n) all c.loop-i.invariant.1
