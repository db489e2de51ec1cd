-- A board whose bytes are stored anew as planned is accepted, and apart from the board before as `Apart` allows; and every accepted board
-- that is so apart from it is reached.
--     size_rewrites, line_rewrites      the bytes afterwards are accepted, of a board at the new size, apart from the one before
--     complete                          an accepted board that is apart from the one before is what the bytes afterwards are read as
-- Assumes nothing.
use Prim.Native.Nat.{ℕ, ◌+◌, ◌<◌}
use mathlib.Core.Path.{◌≡◌, refl, sym, ap, ◌∙◌}
use mathlib.Core.Bool.{Bool, true, false}
use mathlib.Core.List.{List, [], ◌∷◌}
use Rattle.std.proofs.Common.{Result, Ok}
use native.Mathlib.Omega.{arith}
use lib.Dec.{eqb, ltb}
use lib.ListN.{set}
use borrow.Author.Tests.{eqb-true, eqb-false, ltb-true, ltb-false}
use Rattle.values.specs.Words.{Bytes}
use Rattle.kinds.specs.declared.kind.NodeKind.{NodeKind}
use Rattle.kinds.specs.declared.kind.NodeKind.TheVariants.{Delay}
use Rattle.reading.specs.Order.{Wire, sources, wire}
use Rattle.boards.specs.Board.{Parsed, whole}
use Rattle.boards.specs.Judge.{read_board}
use Rattle.graph.specs.Late.{late_wires}
use Rattle.graph.specs.Visit.{visiting_list}
use Rattle.boards.proofs.Round.{read_write}
use Rattle.memory.specs.Memory.{kind_at, listed, kinds}
use Rattle.memory.specs.Fine.{Fine}
use Rattle.memory.proofs.FineBoard.{fine_board}
use Rattle.resizing.specs.Resize.{plan_of, plan_by, resized_of, bytes_after}
use Rattle.sizes.specs.Settled.{Apart, line_longer, line_shorter, size_alone, Complete}
use Rattle.resizing.specs.declared.resize.NotCarried.{NotCarried}
use Rattle.resizing.specs.declared.resize.Resized.{Resized}
use Rattle.resizing.specs.declared.resize.Resized.TheVariants.{Same, Size, Line}
use Rattle.resizing.proofs.Boards.{line_fits, new_kind, old_kinds, one_in}
use Rattle.resizing.proofs.Planning.{SizeIn, Another, Corrects, plan_same, plan_late, corrects_plan}
use Rattle.sizes.proofs.Obeying.{lines_replaced, laid, board_of, kinds_laid, laid_out, size_read, line_read}

-- ---- the bytes afterwards

pub record Rewrites (p : Parsed) (s' : List ℕ) (M : ℕ) : Type 0 where
  pub after : Parsed
  pub reads_after : read_board s' ≡ whole after
  pub at_size : after.size ≡ M
  pub apart : Apart p after

module _ (s : List ℕ) (b : Bytes s) (p : Parsed) (e : read_board s ≡ whole p) where
  pub size_rewrites : (M : ℕ) → Another p M → late_wires (listed p) p.wires ≡ [] → Rewrites p (bytes_after s M (Ok Size)) M
  unfolding bytes_after
  size_rewrites M h none = record {
    after = board_of p M (kinds p);
    reads_after = size_read s p (read_write s b p e) M h.size_fits_lem.0 h.size_fits_lem.1;
    at_size = refl;
    apart = size_alone (record { same_input = refl; same_wires = refl; none_late = none; same_kinds = kinds_laid M 0 (kinds p) });
  }

  module _ (M k n m : ℕ) (h : Corrects p M k n m) where
    abbrev pub new : Parsed
    new = board_of p M (set (kinds p) k (Delay m))

    pub new_read : read_board (bytes_after s M (Ok (Line k n m))) ≡ whole new
    unfolding bytes_after
    new_read = line_read s p (read_write s b p e) M h.another.size_fits_lem.0 h.another.size_fits_lem.1 k n m h.is_delay h.some h.least h.most h.few

    new_apart : Apart p new
    new_apart = go (ltb M p.size) refl
      where
        new_kinds : kinds new ≡ set (kinds p) k (Delay m)
        new_kinds = kinds_laid M 0 (set (kinds p) k (Delay m))

        only : sources p.wires k ≡ h.source ∷ []
        only = one_in p (fine_board s b p e) (wire h.source k) n h.late_is h.is_delay

        go : (q : Bool) → ltb M p.size ≡ q → Apart p new
        go true q =
            line_longer (record {
              larger = ltb-true M p.size q;
              same_input = refl;
              same_wires = refl;
              source = h.source;
              target = k;
              one_late = h.late_is;
              one_in = only;
              n = n;
              is_delay = h.is_delay;
              m = m;
              longer = omega arith;
              same_kinds = new_kinds;
            })
        go false q =
            let larger : p.size < M = omega (arith, ltb-false M p.size q, h.another.other) in
            line_shorter (record {
              larger = larger;
              same_input = refl;
              same_wires = refl;
              source = h.source;
              target = k;
              one_late = h.late_is;
              one_in = only;
              n = m;
              is_delay = new_kind p new k n m h.is_delay new_kinds;
              m = n;
              longer = omega arith;
              same_kinds = old_kinds p new k n m h.is_delay new_kinds;
            })

    pub line_rewrites : Rewrites p (bytes_after s M (Ok (Line k n m))) M
    line_rewrites = record { after = new; reads_after = new_read; at_size = refl; apart = new_apart }

-- ---- what is apart is reached

module _ (s : List ℕ) (b : Bytes s) (p : Parsed) (e : read_board s ≡ whole p) (Q : List ℕ) (c : Bytes Q) (q : Parsed) (d : read_board Q ≡ whole q)
    (same_input : q.input ≡ p.input) (same_wires : q.wires ≡ p.wires) where
  abbrev Reached : Type 0
  Reached = read_board (bytes_after s q.size (resized_of s q.size)) ≡ whole q

  fine : Fine q
  fine = fine_board Q c q d

  -- q is the board of its size and kinds
  is_board : (ks : List NodeKind) → kinds q ≡ ks → board_of p q.size ks ≡ q
  is_board ks same_kinds =
      sym (laid_out Q q (read_write Q c q d)
      ∙ (λ i. record { size = q.size; input = same_input i; nodes = laid q.size 0 (same_kinds i); wires = same_wires i }))

  by_plan : (r : Result Resized NotCarried) (ks : List NodeKind) → r ≡ plan_of p q.size → kinds q ≡ ks → read_board (bytes_after s q.size r) ≡ whole (board_of p q.size ks)
      → Reached
  unfolding resized_of
  by_plan r ks plan same_kinds read =
      ap (λ (x : Result Resized NotCarried). read_board (bytes_after s q.size x)) (ap (plan_by q.size) e ∙ sym plan) ∙ read ∙ ap whole (is_board ks same_kinds)

  size_reached : late_wires (listed p) p.wires ≡ [] → kinds q ≡ kinds p → Reached
  unfolding bytes_after
  size_reached none same_kinds = go (eqb q.size p.size) refl
    where
      fits : SizeIn q.size
      fits = (fine.least_size, fine.most_size)

      go : (t : Bool) → eqb q.size p.size ≡ t → Reached
      go true t =
          let at_size = eqb-true q.size p.size t in
          by_plan (Ok Same) (kinds p) (plan_same p q.size fits at_size) same_kinds
          (e ∙ ap whole (laid_out s p (read_write s b p e) ∙ ap (λ (N : ℕ). board_of p N (kinds p)) (sym at_size)))
      go false t =
          by_plan (Ok Size) (kinds p) (plan_late p q.size [] (record { size_fits_lem = fits; other = eqb-false q.size p.size t }) none) same_kinds
          (size_read s p (read_write s b p e) q.size fits.0 fits.1)

  line_reached : (source k n m : ℕ) → late_wires (listed p) p.wires ≡ wire source k ∷ [] → kind_at p k ≡ Delay n → kinds q ≡ set (kinds p) k (Delay m)
      → n + p.size ≡ m + q.size → (q.size ≡ p.size → ⊥) → Reached
  line_reached source k n m late_is is_delay same_kinds as_long other =
      let old = line_fits p (fine_board s b p e) k n is_delay in
      let fits = line_fits q fine k m (new_kind p q k n m is_delay same_kinds) in
      let lines = lines_replaced p q k n m is_delay same_kinds in
      let h : Corrects p q.size k n m = record {
        another = record { size_fits_lem = (fine.least_size, fine.most_size); other = other };
        source = source;
        late_is = late_is;
        is_delay = is_delay;
        some = old.0;
        least = fits.0;
        most = fits.1;
        few = omega (arith, fine.formed.few_lines);
        as_long = as_long;
      } in
      by_plan (Ok (Line k n m)) (set (kinds p) k (Delay m)) (corrects_plan p q.size k n m h) same_kinds (new_read s b p e q.size k n m h)

pub complete : (s : List ℕ) → Bytes s → Complete s
complete s b p e Q q c d (line_longer o) =
    line_reached s b p e Q c q d o.same_input o.same_wires o.source o.target o.n o.m o.one_late o.is_delay
    o.same_kinds (omega (arith, o.larger, o.longer)) (λ t. omega (arith, o.larger))
complete s b p e Q q c d (line_shorter o) =
    let k : ℕ = o.target in
    line_reached s b p e Q c q d (sym o.same_input) (sym o.same_wires) o.source k o.m o.n
    (ap (λ (ws : List Wire). late_wires (visiting_list ws) ws) o.same_wires ∙ o.one_late)
    (new_kind q p k o.n o.m o.is_delay o.same_kinds) (old_kinds q p k o.n o.m o.is_delay o.same_kinds)
    (omega (arith, o.larger, o.longer)) (λ t. omega (arith, o.larger))
complete s b p e Q q c d (size_alone o) = size_reached s b p e Q c q d o.same_input o.same_wires o.none_late o.same_kinds
