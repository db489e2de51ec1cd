-- An answer's list is the visiting list of the board that the answer is of. Assumes nothing.
use mathlib.Core.Path.{◌≡◌, refl, sym, ap, subst, ◌∙◌}
use mathlib.Core.List.{List, ◌++◌}
use Prim.Native.Nat.{ℕ, ◌-◌, ◌<◌, ◌≤◌}
use native.Mathlib.Nat.{le_trans}
use native.Mathlib.Omega.{arith}
use lib.ListN.{length, get_or, take, replicate, length-append, length-replicate, get_or-append}
use lib.Seq.{take_at}
use Rattle.std.specs.Prelude.{Result, Ok, Err, IfOk}
use Rattle.records.specs.declared.answer.Answer.{Answer}
use Rattle.values.specs.Words.{Bytes}
use Rattle.boards.specs.Board.{Parsed, Progress, going, refused, whole}
use Rattle.boards.specs.Judge.{read_board}
use Rattle.boards.proofs.Ending.{Ended, board_ends}
use Rattle.boards.proofs.Formed.{whole_formed}
use Rattle.boards.proofs.Round.{read_write}
use Rattle.boards.proofs.RoundSix.{records_length}
use Rattle.graph.specs.Visit.{visiting_list, Lists}
use Rattle.graph.specs.Listed.{SourcesBelow}
use Rattle.graph.specs.declared.graph.Order.{Order}
use Rattle.graph.proofs.Accepted.{joins_below}
use Rattle.wiring.specs.Rewire.{wiring, wiring_by}
use Rattle.wiring.specs.Rewiring.{Checked}
use Rattle.wiring.specs.declared.rewire.Wiring.{Wiring}
use Rattle.listing.proofs.Fitting.{list_few, list_below}

-- a list in 64 places, with zeros behind it
in_places : (l : List ℕ) → length l ≤ 64 → ((j : ℕ) → j < length l → get_or l j 0 < 64) → Lists l (l ++ replicate (64 - length l) 0) (length l)
in_places l few below = record {
  size = omega (arith, length-append l (replicate (64 - length l) 0), length-replicate {A = ℕ} (64 - length l) 0);
  fits = few;
  below = λ j h. rw (get_or-append l (replicate (64 - length l) 0) 0 j h) (below j h);
  same = take_at l (replicate (64 - length l) 0) (length l) refl;
}

pub record Listed (s : List ℕ) (w : Wiring) : Type 0 where
  pub parsed : Parsed
  pub reads : read_board s ≡ whole parsed
  pub lists : Lists (visiting_list parsed.wires) w.listed w.count

-- and told by them
pub list_same : (k l : List ℕ) → wiring 0 0 k ≡ wiring 0 0 l → k ≡ l
list_same k l e =
    sym (take_at k (replicate (64 - length k) 0) (length k) refl) ∙ ap (λ (w : Wiring). take w.count w.listed) e ∙ take_at l (replicate (64 - length l) 0) (length l) refl

module _ (s : List ℕ) (small : Bytes s) (w : Wiring) where
  few : (p : Parsed) → read_board s ≡ whole p → length p.nodes ≤ 64
  few p e = let r = read_write s small p e in omega (arith, r.obeys.few_nodes, records_length r.card.size 0 r.card.nodes, ap (λ (q : Parsed). length q.nodes) r.parsed)

  pub answer_lists : w ≡ wiring_by (read_board s) → w.number ≡ 0 → Listed s w
  answer_lists is zero = go (read_board s) refl (board_ends s)
    where
      go : (v : Progress) → read_board s ≡ v → Ended v → Listed s w
      go (going at last p) e d = absurd d
      go (refused k x) e d = absurd (omega (arith, d, sym (ap (λ (v : Progress). (wiring_by v).number) e) ∙ sym (ap (λ (x : Wiring). x.number) is) ∙ zero))
      go (whole p) e d =
          let f = whole_formed s p e in
          let below : SourcesBelow p.wires 64 = λ v k m. le_trans (joins_below _ p.wires f.joins v k m) (few p e) in
          record {
            parsed = p;
            reads = e;
            lists = subst (λ (x : Wiring). Lists (visiting_list p.wires) x.listed x.count) (sym (is ∙ ap wiring_by e))
                (in_places (visiting_list p.wires) (list_few p.wires below) (list_below p.wires below));
          }

-- the list that the answer has is the board's
pub list_is : (s : List ℕ) (w : Wiring) (r : Result Order Answer) → Checked w r → (w.number ≡ 0 → Bytes s × (w ≡ wiring_by (read_board s)))
    → IfOk r (λ o. wiring 0 0 (take o.count o.nodes) ≡ wiring_by (read_board s))
list_is s w (Err a) k h = tt
list_is s w (Ok o) k h =
    let l = answer_lists s (h k.0).0 w (h k.0).1 k.0 in
    ap (wiring 0 0) ((λ i. take (k.2 i) (k.1 i)) ∙ l.lists.same) ∙ sym (ap wiring_by l.reads)

-- what holds of an answer of 0 holds of success
pub if_listed : (w : Wiring) {P : Type 0} (r : Result Order Answer) → Checked w r → (w.number ≡ 0 → P) → IfOk r (λ _. P)
if_listed w (Err a) k h = tt
if_listed w (Ok o) k h = h k.0
