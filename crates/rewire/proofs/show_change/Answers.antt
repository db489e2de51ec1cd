-- `rewire::show_change` meets its contract: the changed board, which lies within the bytes, is the answer's. Assumes nothing.
use mathlib.Core.Path.{◌≡◌, sym, ap, subst₂, ◌∙◌}
use mathlib.Core.List.{List}
use Prim.Native.Nat.{ℕ}
use borrow.Author.Rules.{rules}
use native.Mathlib.Omega.{arith}
use lib.ListN.{length, take}
use lib.Seq.{length-take-le}
use Rattle.values.specs.Words.{Bytes}
use Rattle.boards.specs.Judge.{read_board}
use Rattle.wiring.specs.Rewire.{wiring_by}
use Rattle.wiring.specs.declared.rewire.Wiring.{Wiring}
use Rattle.rewire.specs.declared.change.Request.{Request}
use Rattle.rewire.specs.Step.{made_of, length_after, Plays}
use Rattle.records.proofs.RoundBytes.{bytes_front}
use Rattle.rewire.proofs.Answering.{answer_lists, list_is, if_listed}
use Rattle.rewire.proofs.Making.{made, made_room, after_plays}
use Rattle.rewire.proofs.show_change.Goals as goal

-- the changed bytes begin with a board as long as is said
plays : (h : Request) (bytes : List ℕ) (n : ℕ) → Plays bytes n → Bytes bytes → (w : Wiring) (new : List ℕ) (m : ℕ)
    → w ≡ (made_of h bytes n).0 → new ≡ (made_of h bytes n).1 → m ≡ length_after h n w → Plays new m
plays h bytes n board small w new m is changed long =
    subst₂ Plays (sym changed) (sym (long ∙ ap (length_after h n) is)) (after_plays h bytes n board small)

pub checked-answer-requires : goal.checked-answer-requires
checked-answer-requires g c z =
    let a = c.args in
    let answer = c.make.ensures in
    let small : Bytes a.bytes.now = λ i. search rules in
    let m = made a.request a.bytes.now a.n c.requires small (ap (λ (w : Wiring). w.number) (sym answer.answered) ∙ z) in
    let l = answer_lists _ (bytes_front _ _ m.small) c.make.result (answer.answered ∙ m.answers) z in
    (l.lists.fits, l.lists.below)

pub length_after-after-requires : goal.length_after-after-requires
length_after-after-requires g c =
    let a = c.args in
    let answer = c.make.ensures in
    let small : Bytes a.bytes.now = λ i. search rules in
    if_listed c.make.result c.checked-answer.result c.checked-answer.ensures
    (λ z. made_room a.bytes.now a.n c.requires small a.request (ap (λ (w : Wiring). w.number) (sym answer.answered) ∙ z) (omega (arith, ap length answer.bytes, c.make.auto.bytes)))

pub slice_bounds-step_text-end : goal.slice_bounds-step_text-end
slice_bounds-step_text-end g c =
    let a = c.args in
    let made = c.make.ensures in
    let small : Bytes a.bytes.now = λ i. search rules in
    (plays a.request a.bytes.now a.n c.requires small _ _ _ made.answered made.bytes (c.length_after-after.ensures _ c.checked-answer.ensures)).within

pub slice_bounds-step_text-end-2 : goal.slice_bounds-step_text-end-2
slice_bounds-step_text-end-2 g c =
    let a = c.args in
    let made = c.make.ensures in
    let small : Bytes a.bytes.now = λ i. search rules in
    sym (length-take-le _ _ (plays a.request a.bytes.now a.n c.requires small _ _ _ made.answered made.bytes (c.length_after-after.ensures _ c.checked-answer.ensures)).within)

pub step_text-requires : goal.step_text-requires
step_text-requires g c =
    let a = c.args in
    let answer = c.make.ensures in
    let small : Bytes a.bytes.now = λ i. search rules in
    let w = c.make.result in
    let long = c.length_after-after.ensures _ c.checked-answer.ensures ∙ ap (length_after a.request a.n) answer.answered in
    let P : List ℕ → ℕ → Type 0 = λ b k. Bytes (take k b) × (w ≡ wiring_by (read_board (take k b))) in
    let board : w.number ≡ 0 → P c.make.new.bytes c.length_after-after.result = λ z.
    (let m = made a.request a.bytes.now a.n c.requires small (ap (λ (w : Wiring). w.number) (sym answer.answered) ∙ z) in
    subst₂ P (sym answer.bytes) (sym long) (bytes_front _ _ m.small, answer.answered ∙ m.answers)) in
    list_is (take c.length_after-after.result c.make.new.bytes) w c.checked-answer.result c.checked-answer.ensures board

pub returns-clause-long : goal.returns-clause-long
returns-clause-long g c = c.length_after-after.ensures _ c.checked-answer.ensures ∙ ap (length_after c.args.request c.args.n) c.make.ensures.answered

pub returns-clause-plays : goal.returns-clause-plays
returns-clause-plays g c =
    let a = c.args in
    let made = c.make.ensures in
    let small : Bytes a.bytes.now = λ i. search rules in
    plays a.request a.bytes.now a.n c.requires small _ _ _ made.answered made.bytes (c.length_after-after.ensures _ c.checked-answer.ensures)
