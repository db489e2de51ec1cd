-- `boards::read::read_wires` meets its contract. The loop's invariant: the wires passed are those of the definition, and the table is
-- theirs. The measure is what is left of the bytes. Assumes nothing.
use Prim.Native.Nat.{ℕ, ◌+◌, ◌≤◌, ◌<◌}
use mathlib.Core.Path.{◌≡◌, sym, subst, ◌∙◌}
use mathlib.Core.List.{List}
use native.Mathlib.Omega.{arith}
use lib.ListN.{length, get_or}
use Rattle.values.specs.Bytes.{u16_at}
use Rattle.boards.proofs.Wiring.{wires_stored, wires_length}
use Rattle.sources.proofs.Tabling.{tabling_started, ins_few, counts_few, tabling_added}
use Rattle.boards.proofs.RecordSteps.{WireEnds, wire_here, wire_ends}
use Rattle.boards.proofs.Answers.{residual_is}
use Rattle.boards.proofs.Loops.{wires_start, wires_more, wires_ended, wires_refused}
use Rattle.boards.proofs.read.read_wires.Goals as goal

-- a number below 256 is its low byte
low : (s : List ℕ) (at n : ℕ) → u16_at s at < n → n ≤ 64 → get_or s at 0 ≡ u16_at s at
low s at n h few = omega arith

pub loop-ins-init : goal.loop-ins-init
loop-ins-init c =
    let p = c.requires in
    (wires_start _ _ _ _ c.args.wires.now.long p.i_bound.2, tabling_started p.tabled)

pub is_wire-requires : goal.is_wire-requires
is_wire-requires c = c.loop-ins.invariant.0.inside

pub bounds-s-next-in-loop-ins : goal.bounds-s-next-in-loop-ins
bounds-s-next-in-loop-ins c = omega (arith, (wire_here _ _ _ _ (sym c.is_wire.ensures ∙ c.loop-ins-test.true)).2)

pub add-requires : goal.add-requires
add-requires c =
    let at = c.loop-ins in
    let here = wire_here c.args.s.now at.next c.args.i at.count (sym c.is_wire.ensures ∙ c.loop-ins-test.true) in
    let target_is = low c.args.s.now (at.next + 6) c.args.i here.1.obeys.target_there c.requires.i_bound.0 in
    let target : c.from-target.result < 64 = omega (arith, c.from-target.ensures, target_is, here.1.obeys.target_there) in
    (target, counts_few _ _ _ _ _ at.invariant.1 c.from-target.result target)

pub overflow_add-ins : goal.overflow_add-ins
overflow_add-ins c =
    let at = c.loop-ins in
    let here = wire_here c.args.s.now at.next c.args.i at.count (sym c.is_wire.ensures ∙ c.loop-ins-test.true) in
    let target : c.from-target.result < 64 = omega arith in
    let count : at.count ≤ length at.wires.list = omega (arith, at.invariant.0.long, at.invariant.0.few) in
    omega (arith, ins_few _ _ _ _ _ at.invariant.1 c.from-target.result target, wires_length at.wires.list at.count count, here.1.room)

pub loop-ins-preserved : goal.loop-ins-preserved
loop-ins-preserved c =
    let at = c.loop-ins in
    let so_far = at.invariant.0 in
    let here = wire_here c.args.s.now at.next c.args.i at.count (sym c.is_wire.ensures ∙ c.loop-ins-test.true) in
    let s = c.args.s.now in
    let few = c.requires.i_bound.0 in
    let source_is = low s (at.next + 4) c.args.i here.1.obeys.source_there few in
    let target_is = low s (at.next + 6) c.args.i here.1.obeys.target_there few in
    let target : c.from-target.result < 64 = omega (arith, c.from-target.ensures, target_is, here.1.obeys.target_there) in
    let stored = wires_stored at.wires.list at.count (get_or s (at.next + 4) 0) (get_or s (at.next + 6) 0) (omega (arith, so_far.long, here.1.room)) in (
      wires_more _ _ _ _ _ _ so_far _ _ source_is target_is here,
      rw (stored, ← c.from-target.ensures) (tabling_added (get_or s (at.next + 4) 0) c.from-target.result target at.invariant.1 c.add.ensures),
    )

pub wires_end-requires : goal.wires_end-requires
wires_end-requires c = omega (arith, c.loop-ins.invariant.0.next_is, c.loop-ins.invariant.0.few, c.requires.i_bound.1)

pub returns-in_err-wires_end-clause-read : goal.returns-in_err-wires_end-clause-read
returns-in_err-wires_end-clause-read c =
    let s = c.args.s.now in
    let at = c.loop-ins in
    let ends = wire_ends s at.next c.args.i at.count (sym c.is_wire.ensures ∙ c.loop-ins-test.false) in
    rw (residual_is _ _ c.from_residual.ensures.1)
    (wires_refused _ _ _ _ _ _ at.invariant.0 _ _ _ _ (subst (WireEnds s at.next c.args.i at.count) (sym c.wires_end.ensures ∙ c.in_err-wires_end.was) ends))

pub returns-clause-read : goal.returns-clause-read
returns-clause-read c =
    let s = c.args.s.now in
    let at = c.loop-ins in
    let ends = wire_ends s at.next c.args.i at.count (sym c.is_wire.ensures ∙ c.loop-ins-test.false) in
    wires_ended _ _ _ _ _ _ at.invariant.0 _ _ _ (subst (WireEnds s at.next c.args.i at.count) (sym c.wires_end.ensures ∙ c.in_ok-wires_end.was) ends)
