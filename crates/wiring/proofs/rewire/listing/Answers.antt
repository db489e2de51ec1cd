-- `wiring::rewire::listing` meets its contract: the list is copied in front of zeros. Assumes nothing.
use mathlib.Core.Path.{◌≡◌, sym, ap, ◌∙◌}
use mathlib.Core.List.{◌++◌}
use Prim.Native.Nat.{ℕ, ◌-◌}
use native.Mathlib.Omega.{arith}
use lib.ListN.{length, take, drop, replicate}
use lib.Seq.{length-take-le}
use Rattle.std.proofs.lemmas.List.{drop-replicate}
use Rattle.wiring.proofs.rewire.listing.Goals as goal

pub returns : goal.returns
returns c =
    let o = c.args.order.now in
    let l = take o.count o.nodes in
    let long : length l ≡ o.count = length-take-le o.count o.nodes (omega (arith, o.long, o.fits)) in
    let copied : c.copy_from_slice.new.self ≡ l = c.copy_from_slice.ensures.after ∙ c.listed.ensures in
    let full : c.copy_from_slice.new.self ++ drop o.count (replicate 64 0) ≡ l ++ replicate (64 - length l) 0 =
    (λ i. copied i ++ drop-replicate o.count 64 0 i) ∙ ap (λ (n : ℕ). l ++ replicate (64 - n) 0) (sym long) in
    λ i. record { number = 0; place = 0; count = sym long i; listed = full i }
