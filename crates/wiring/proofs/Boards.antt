-- An accepted board in its arrays, and what a change answers on it: the target decides, by its sources. Assumes nothing.
use Prim.Native.Nat.{ℕ, suc, ◌+◌, ◌-◌, ◌*◌, ◌≤◌, ◌<◌}
use mathlib.Core.Path.{◌≡◌, sym, ap, subst, ◌∙◌}
use mathlib.Core.Bool.{Bool, true, false, true≢false}
use mathlib.Core.List.{List, [], ◌∷◌}
use native.Mathlib.Nat.{le_trans}
use native.Mathlib.Omega.{arith}
use borrow.Author.Tests.{eqb-true, leb-true}
use lib.Dec.{eqb, leb}
use lib.ListN.{length, get_or, take, length-append}
use lib.Seq.{get_or-take}
use Rattle.std.specs.Prelude.{Result, Ok, Err, IsErrAnd}
use Rattle.records.specs.declared.answer.Answer.{Answer}
use Rattle.boards.specs.BoardParts.{Refuses}
use Rattle.values.specs.Words.{Bytes}
use Rattle.kinds.specs.Kind.{sources_fit, fewest, most}
use Rattle.kinds.specs.declared.kind.NodeRecord.{NodeRecord}
use Rattle.reading.specs.Table.{mem}
use Rattle.reading.specs.Order.{Wire, Each, Once, sources, wire}
use Rattle.boards.specs.Board.{whole, wire_fits, blank}
use Rattle.boards.specs.Formed.{Formed}
use Rattle.boards.specs.Judge.{pass_at, input_fits, read_board, check_six}
use Rattle.graph.specs.Listed.{SourcesBelow}
use Rattle.boards.specs.BoardParts.{wired as with_wires}
use Rattle.boards.specs.Read.{Read, parsed_of}
use Rattle.sources.specs.Sources.{distinct_sources}
use Rattle.graph.specs.Visit.{visiting_list, Lists}
use Rattle.boards.specs.Obeys.{WireObeys}
use Rattle.boards.specs.declared.board.Board.{Board}
use Rattle.graph.proofs.Accepted.{accepted_board, accepted_formed, count_is}
use Rattle.reading.proofs.Choice.{both}
use Rattle.boards.proofs.Fits.{wire_fits_lem}
use Rattle.graph.proofs.Listed.{lists_reached}
use Rattle.boards.proofs.Six.{sources_few}
use Rattle.graph.proofs.Wired as graph
use Rattle.boards.proofs.Wiring.{wires_length}
use Rattle.carrying.specs.Carried.{added, wired, older, newer, pulled}
use Rattle.wiring.specs.Rewire.{wiring, refusal, wiring_by, closed_up, pulled_from, judged_anew, added_board, pulled_board}
use Rattle.wiring.specs.Rewiring.{Adds, Pulls}
use Rattle.graph.specs.declared.graph.Order.{Order}
use Rattle.wiring.specs.declared.rewire.Wiring.{Wiring}
use Rattle.wiring.proofs.Answered.{added_refused, pulled_refused, added_whole, added_read, pulled_by, pulled_read}
use Rattle.wiring.proofs.Sixth.{input_fits_lem, six_into, six_fits, six_wrong}
use Rattle.carrying.proofs.Tables.{added_at, added_other, added_keeps, added_again, added_last, wired-mem, pulled_other, pulled_keeps, pulled_again, pulled_none, pulled_less}
use Rattle.carrying.proofs.Wires.{newest}
use Rattle.wiring.proofs.Written.{parts, pulled_inside}

-- a board that is refused is refused in both calls
pub add_refused : (s : List ℕ) (x y : ℕ) (r : Result Order Answer) (a : Answer) → IsErrAnd r (λ e. e ≡ a) → Refuses (read_board s) a → Adds s x y r
add_refused s x y (Ok o) a h q = absurd h
add_refused s x y (Err e) a h q =
    subst (λ (e : Answer). Adds s x y (Err e)) (sym h) (q.0, sym (ap (λ (d : Wiring × List ℕ). d.0) (added_refused s x y a.number a.place q.1)))

pub pull_refused : (s : List ℕ) (x y : ℕ) (r : Result (Order × ℕ) Answer) (a : Answer) → IsErrAnd r (λ e. e ≡ a) → Refuses (read_board s) a → Pulls s x y r
pull_refused s x y (Ok o) a h q = absurd h
pull_refused s x y (Err e) a h q =
    subst (λ (e : Answer). Pulls s x y (Err e)) (sym h) (q.0, sym (ap (λ (d : Wiring × List ℕ). d.0) (pulled_refused s x y a.number a.place q.1)))

-- the ends of a wire that is there
wired_ends : (n : ℕ) (ws : List Wire) → Each (WireObeys n) ws → (s t : ℕ) → wired ws s t ≡ true → (s < n) × (t < n)
wired_ends n ws h s t e =
    let w = (parts n (older ws s t) (wire s t ∷ newer ws s t) (subst (Each (WireObeys n)) (newest ws s t e) h)).1.0 in
    (w.source_there, w.target_there)

-- the wires of a board
abbrev wires_in : Board → List Wire
wires_in b = (parsed_of b).wires

-- node t of a board fits n sources
abbrev pub takes : Board → ℕ → ℕ → Bool
takes b t n = sources_fit (get_or b.nodes t blank).kind n

module _ (s : List ℕ) (b : Board) (read : Read (read_board s) (Ok b)) where
  pub below_64 : SourcesBelow (wires_in b) 64
  below_64 k j e = le_trans (graph.sources_below s b read k j e) b.few

  -- each node of its list stands there once
  pub listed_once : (nodes : List ℕ) (count : ℕ) → Lists (visiting_list (wires_in b)) nodes count → Once (take count nodes)
  listed_once nodes count l = subst Once (sym l.same) (lists_reached (wires_in b) below_64).once

  pub wires_are : length (wires_in b) ≡ b.wires.count
  wires_are = wires_length b.wires.list b.wires.count (omega (arith, b.wires.long, b.wires.few))

  reads : read_board s ≡ whole (parsed_of b)
  reads = accepted_board s b read

  formed : Formed (parsed_of b)
  formed = accepted_formed s b read

  input : input_fits (parsed_of b) ≡ true
  input = input_fits_lem s (parsed_of b) reads

  counted : length (parsed_of b).nodes ≡ b.count
  counted = count_is s b read

  -- the table's count of a node's sources
  sources_are : (t : ℕ) → t < b.count → length (distinct_sources (wires_in b) t) ≡ get_or b.sources.counts t 0
  sources_are t h = sym ((graph.gathered s b read).size t (omega (arith, b.few)))

  kind_is : (t n : ℕ) → t < b.count → takes b t n ≡ sources_fit (get_or (parsed_of b).nodes t blank).kind n
  kind_is t n h = ap (λ (r : NodeRecord). sources_fit r.kind n) (sym (get_or-take b.count b.nodes t blank h))

  -- no node takes more than eight
  pub eight : (t n : ℕ) → takes b t n ≡ true → n ≤ 8
  eight t n e =
      let k = (get_or b.nodes t blank).kind in
      omega (arith, leb-true n (most k) (both (leb (fewest k) n) (leb n (most k)) e).1, (sources_few k).1)

  module _ (small : Bytes s) (x y : ℕ) where
    -- ---- a wire added

    module _ (fits : wire_fits b.count b.wires.count x y ≡ true) where
      told : wire_fits (length (parsed_of b).nodes) (length (wires_in b)) x y ≡ true
      told = (λ i. wire_fits (counted i) (wires_are i) x y) ∙ fits

      there : y < length (parsed_of b).nodes
      there = (wire_fits_lem (length (parsed_of b).nodes) (length (wires_in b)) x y told).obeys.target_there

      in_count : y < b.count
      in_count = omega (arith, there, counted)

      added_answers : (added_board x y s).0 ≡ wiring_by (check_six (with_wires (parsed_of b) (added (wires_in b) x y)))
      added_answers =
          ap (λ (d : Wiring × List ℕ). d.0) (added_whole s x y (parsed_of b) reads) ∙ ap wiring_by (added_read s x y (parsed_of b) reads small told)

      -- into the input node
      pub added_into : y ≡ b.input → refusal 6 y ≡ (added_board x y s).0
      added_into e =
          sym (added_answers ∙ ap wiring_by (six_into (parsed_of b) formed input (added (wires_in b) x y) y there (added_other (wires_in b) x y) e
          (λ z. omega (arith, ap length (added_at (wires_in b) x y), length-append (sources (wires_in b) y) (x ∷ []), z))))

      module _ (apart : y ≡ b.input → ⊥) where
        -- a like wire is there
        pub added_like : wired (wires_in b) x y ≡ true → (nodes : List ℕ) (count : ℕ) → Lists (visiting_list (wires_in b)) nodes count
            → wiring 0 0 (take count nodes) ≡ (added_board x y s).0
        added_like e nodes count l =
            let m = sym (wired-mem (wires_in b) x y) ∙ e in
            ap (wiring 0 0) (l.same ∙ sym (added_again (wires_in b) x y m))
            ∙ sym (added_answers ∙ ap wiring_by (six_fits (parsed_of b) formed input (added (wires_in b) x y) y there (added_other (wires_in b) x y) apart
            (ap (λ (l : List ℕ). sources_fit (get_or (parsed_of b).nodes y blank).kind (length l)) (added_keeps (wires_in b) x y m) ∙ formed.sources_fit_lem blank y there)))

        module _ (new : mem x (sources (wires_in b) y) ≡ false) where
          one_more : length (distinct_sources (added (wires_in b) x y) y) ≡ get_or b.sources.counts y 0 + 1
          one_more = omega (arith, ap length (added_last (wires_in b) x y new), length-append (distinct_sources (wires_in b) y) (x ∷ []), sources_are y in_count)

          as_judged : (f : Bool) → takes b y (get_or b.sources.counts y 0 + 1) ≡ f
              → sources_fit (get_or (parsed_of b).nodes y blank).kind (length (distinct_sources (added (wires_in b) x y) y)) ≡ f
          as_judged f e = rw one_more (sym (kind_is y (get_or b.sources.counts y 0 + 1) in_count) ∙ e)

          -- the target takes no more
          pub added_over : takes b y (get_or b.sources.counts y 0 + 1) ≡ false → refusal 6 y ≡ (added_board x y s).0
          added_over e =
              sym (added_answers ∙ ap wiring_by (six_wrong (parsed_of b) formed input (added (wires_in b) x y) y there (added_other (wires_in b) x y) apart (as_judged false e)))

          pub added_new : takes b y (get_or b.sources.counts y 0 + 1) ≡ true → (nodes : List ℕ) (count : ℕ) → Lists (visiting_list (added (wires_in b) x y)) nodes count
              → wiring 0 0 (take count nodes) ≡ (added_board x y s).0
          added_new e nodes count l =
              ap (wiring 0 0) l.same
              ∙ sym (added_answers ∙ ap wiring_by (six_fits (parsed_of b) formed input (added (wires_in b) x y) y there (added_other (wires_in b) x y) apart (as_judged true e)))

    -- ---- a wire pulled

    module _ (is : wired (wires_in b) x y ≡ true) where
      pub pulled_ends : (x < b.count) × (y < b.count)
      pulled_ends = let e = wired_ends (length (parsed_of b).nodes) (wires_in b) formed.joins x y is in (omega (arith, e.0, counted), omega (arith, e.1, counted))

      target_there : y < length (parsed_of b).nodes
      target_there = omega (arith, pulled_ends.1, counted)

      -- the input node has no sources
      not_input : y ≡ b.input → ⊥
      not_input e =
          let none = eqb-true (length (sources (wires_in b) b.input)) 0 (both (pass_at (parsed_of b).nodes b.input) (eqb (length (sources (wires_in b) b.input)) 0) input).1 in
          empty (sources (wires_in b) y) (ap (λ (k : ℕ). length (sources (wires_in b) k)) e ∙ none) (sym (wired-mem (wires_in b) x y) ∙ is)
        where
          empty : (l : List ℕ) → length l ≡ 0 → mem x l ≡ true → ⊥
          empty [] z m = true≢false (sym m)
          empty (a ∷ l) z m = omega arith

      by : pulled_board x y s ≡ judged_anew (pulled_from (parsed_of b) x y s)
      by = pulled_by s x y (parsed_of b) reads true is

      pulled_answers : (pulled_board x y s).0 ≡ wiring_by (check_six (with_wires (parsed_of b) (pulled (wires_in b) x y)))
      pulled_answers = ap (λ (d : Wiring × List ℕ). d.0) by ∙ ap wiring_by (pulled_read s x y (parsed_of b) reads small is)

      -- the record, by its place among the wires
      pub pulls : (o : Order) (at j : ℕ) → j ≡ length (older (wires_in b) x y) → at ≡ 8 + 14 * b.count + 8 * j → wiring 0 0 (take o.count o.nodes) ≡ (pulled_board x y s).0
          → Pulls s x y (Ok (o, at))
      pulls o at j e is_at a =
          let here : 8 + 14 * length (parsed_of b).nodes + 8 * length (older (wires_in b) x y) ≡ at = omega (arith, counted, e, is_at) in (
            a,
            omega (arith, pulled_inside s small (parsed_of b) reads x y is, here),
            ap (λ (d : Wiring × List ℕ). d.1) by ∙ ap (λ (k : ℕ). closed_up k s) here,
          )

      -- an older like wire stays
      pub pulled_like : wired (older (wires_in b) x y) x y ≡ true → (nodes : List ℕ) (count : ℕ) → Lists (visiting_list (wires_in b)) nodes count
          → wiring 0 0 (take count nodes) ≡ (pulled_board x y s).0
      pulled_like e nodes count l =
          let m = sym (wired-mem (older (wires_in b) x y) x y) ∙ e in
          ap (wiring 0 0) (l.same ∙ sym (pulled_again (wires_in b) x y is m))
          ∙ sym (pulled_answers ∙ ap wiring_by (six_fits (parsed_of b) formed input (pulled (wires_in b) x y) y target_there (pulled_other (wires_in b) x y is) not_input
          (ap (λ (l : List ℕ). sources_fit (get_or (parsed_of b).nodes y blank).kind (length l)) (pulled_keeps (wires_in b) x y is m) ∙ formed.sources_fit_lem blank y target_there)))

      module _ (only : wired (older (wires_in b) x y) x y ≡ false) where
        -- none stays
        pub gone : mem x (sources (pulled (wires_in b) x y) y) ≡ false
        gone = pulled_none (wires_in b) x y is (sym (wired-mem (older (wires_in b) x y) x y) ∙ only)

        pub one_less : get_or b.sources.counts y 0 ≡ suc (length (distinct_sources (pulled (wires_in b) x y) y))
        one_less = sym (sources_are y pulled_ends.1) ∙ pulled_less (wires_in b) x y is gone

        as_left : (f : Bool) → takes b y (get_or b.sources.counts y 0 - 1) ≡ f
            → sources_fit (get_or (parsed_of b).nodes y blank).kind (length (distinct_sources (pulled (wires_in b) x y) y)) ≡ f
        as_left f e =
            let less : length (distinct_sources (pulled (wires_in b) x y) y) ≡ get_or b.sources.counts y 0 - 1 = omega (arith, one_less) in
            rw less (sym (kind_is y (get_or b.sources.counts y 0 - 1) pulled_ends.1) ∙ e)

        -- the target takes no less
        pub pulled_under : takes b y (get_or b.sources.counts y 0 - 1) ≡ false → refusal 6 y ≡ (pulled_board x y s).0
        pulled_under e =
            sym (pulled_answers ∙ ap wiring_by (six_wrong (parsed_of b) formed input (pulled (wires_in b) x y) y target_there (pulled_other (wires_in b) x y is) not_input (as_left false e)))

        pub pulled_only : takes b y (get_or b.sources.counts y 0 - 1) ≡ true → (nodes : List ℕ) (count : ℕ) → Lists (visiting_list (pulled (wires_in b) x y)) nodes count
            → wiring 0 0 (take count nodes) ≡ (pulled_board x y s).0
        pulled_only e nodes count l =
            ap (wiring 0 0) l.same
            ∙ sym (pulled_answers ∙ ap wiring_by (six_fits (parsed_of b) formed input (pulled (wires_in b) x y) y target_there (pulled_other (wires_in b) x y is) not_input (as_left true e)))
