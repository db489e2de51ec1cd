-- `answers::answer::spot_of` meets its contract: a text has no more lines than bytes, so they can be counted, and each is a part of it. Assumes nothing.
use mathlib.Core.Path.{◌≡◌, ap, subst, ◌∙◌}
use mathlib.Core.List.{List}
use Prim.Native.Nat.{ℕ}
use denote.Ref.{Bor}
use native.Mathlib.Omega.{arith}
use mathlib.Core.Logic.{inl}
use Rattle.std.proofs.Common.{rules}
use Rattle.std.proofs.iter.Serving.{serving}
use Rattle.std.proofs.iter.Rest.{run_of_first_by}
use Rattle.text.specs.declared.words.Lines.{Lines}
use Rattle.text.specs.Words.{lines_of}
use Rattle.text.proofs.Finding.{lines_few}
use Rattle.answers.specs.Part.{IsPart}
use Rattle.answers.proofs.Lining.{numbered_part}
use Rattle.answers.proofs.answer.spot_of.Goals as goal

pub nth-requires : goal.nth-requires
nth-requires g c =
    let lines = c.enumerate.ensures in
    let few = lines_few c.args.text.now in
    rw (c.filter.ensures.source, lines.source, lines.count, c.new.ensures) ((tt, tt, inl (omega (arith, few))), tt, grind serving)

-- the line that is found is one of the text's: `nth` gives an item of `filter`, that one of `enumerate`, that a line
pub returns : goal.returns
returns g c =
    let found = c.in_ok-i.ensures.runs in
    let kept = c.filter.ensures.runs found.0 found.0.seen found.1 in
    let all = (c.enumerate.ensures.runs kept.0 kept.0.seen kept.1).1 in
    let lines = (run_of_first_by (λ (l : Bor (List ℕ)). l.now) (λ (s : Lines). lines_of s.rest.now) all.0).1 in
    let text : all.0.from.rest.now ≡ c.args.text.now = ap (λ (s : Lines). s.rest.now) all.1 ∙ c.new.ensures in
    let P : List ℕ → Type 0 = λ t. IsPart t c.in_ok-i.line.now in
    let part : IsPart c.args.text.now c.in_ok-i.line.now =
    subst P text (numbered_part all.0.from.rest.now c.in_ok-i.i c.in_ok-i.line (found.0.at c.args.k) kept.0.at all.0.at kept.0.len found.2.1 (kept.2.2 c.args.k) all.2.0.2 (omega (arith, all.2.0.0, lines.0)) lines.8) in
    search rules
