-- `wav::block::first_bad` meets its contract: what `find` passed is fine, and what it stopped at is not. Assumes nothing.
use Rattle.std.proofs.Common.{rules, tests, ◌≡◌, ◌/◌, length, ℕ, true, false, ap, ◌∙◌}
use Rattle.std.proofs.lemmas.Iterator.{first_from_Range}
use Rattle.values.specs.Floors.{finite_f}
use Rattle.wav.specs.Frames.{sample_in, first_bad}
use Rattle.wav.proofs.Lists.{bad_found}
use Rattle.wav.proofs.block.first_bad.Goals as goal

pub returns-clause-first : goal.returns-clause-first
returns-clause-first c =
    let f = c.args.format in
    let s = c.args.frames.now in
    bad_found f s (length s / c.frame_size.result) c.find.result
    (first_from_Range _ _ _ _ (λ i. finite_f (sample_in f s i) ≡ false) (λ i. finite_f (sample_in f s i) ≡ true) c.find.ensures.ran
    (λ x q e. search (rules, tests)) (λ x q e. search (rules, tests)))
    ∙ ap (λ (d : ℕ). first_bad f s 0 (length s / d)) c.frame_size.ensures.0
