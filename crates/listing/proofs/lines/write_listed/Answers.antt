-- `listing::lines::write_listed` meets its contract: the line of the list, then those of its late wires. Assumes nothing.
use mathlib.Core.Path.{◌≡◌, ap, ◌∙◌}
use mathlib.Core.List.{List, [], ◌∷◌, ◌++◌}
use Prim.Native.Nat.{ℕ, ◌≤◌}
use native.Mathlib.Omega.{arith}
use lib.ListN.{length, take}
use lib.Seq.{length-take-le, get_or-take}
use Rattle.boards.specs.Wires.{Within, wires_of}
use Rattle.graph.specs.Late.{late_wires}
use Rattle.listing.specs.Text.{spaced_all, order_word, late_lines, order_text}
use Rattle.listing.proofs.lines.write_listed.Goals as goal

-- the listed nodes are below 64, and no more than 64
listed_fits : (nodes : List ℕ) (count : ℕ) (l : List ℕ) → l ≡ take count nodes → length nodes ≡ 64 → count ≤ 64 → Within 64 nodes count → (length l ≤ 64) × Within 64 l (length l)
listed_fits nodes count l e long few below =
    let size = length-take-le count nodes (omega (arith, long, few)) in
    rw e (omega (arith, size, few), λ j h. rw (get_or-take count nodes j 0 (omega (arith, size, h))) (below j (omega (arith, size, h))))

pub push_nodes-requires : goal.push_nodes-requires
push_nodes-requires c =
    let order = c.args.order.now in
    let fits = listed_fits order.nodes order.count c.listed.result.now c.listed.ensures order.long order.fits order.below in
    (omega (arith, fits.0, c.push_word.ensures.len, ap (λ (l : List ℕ). length l) c.clear.ensures), fits.1)

pub push_lates-requires : goal.push_lates-requires
push_lates-requires c =
    let order = c.args.order.now in
    let fits = listed_fits order.nodes order.count c.listed.result.now c.listed.ensures order.long order.fits order.below in
    omega (arith, fits.0, c.push_word.ensures.len, ap (λ (l : List ℕ). length l) c.clear.ensures, c.push_nodes.ensures.short, c.push.ensures.len, c.args.wires.now.few)

pub returns : goal.returns
unfolding order_text
returns c =
    let order = c.args.order.now in
    let wires = c.args.wires.now in
    let l = take order.count order.nodes in
    let head : c.push_word.new.self ≡ order_word = c.push_word.ensures.text ∙ ap (λ (t : List ℕ). t ++ order_word) c.clear.ensures in
    let nodes : c.push_nodes.new.out ≡ order_word ++ spaced_all l =
    c.push_nodes.ensures.wrote ∙ ap (λ (t : List ℕ). t ++ spaced_all c.listed.result.now) head ∙ ap (λ (k : List ℕ). order_word ++ spaced_all k) c.listed.ensures in
    c.push_lates.ensures
    ∙ ap (λ (t : List ℕ). t ++ late_lines (late_wires l (wires_of wires.list wires.count))) (c.push.ensures.text ∙ ap (λ (t : List ℕ). t ++ (10 ∷ [])) nodes)
