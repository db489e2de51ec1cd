-- `wiring::rewire::pulled` meets its contract: the old board is judged, then there is such a wire, then its target by check 6. Assumes nothing.
use Prim.Native.Nat.{ℕ, ◌+◌, ◌-◌, ◌*◌, ◌<◌, ◌≤◌}
use mathlib.Core.Path.{◌≡◌, refl, sym, ap, subst₂, ◌∙◌}
use mathlib.Core.Bool.{Bool, false}
use mathlib.Core.List.{List}
use native.Mathlib.Nat.{le_trans}
use native.Mathlib.Omega.{arith}
use lib.ListN.{length, get_or, take}
use lib.Seq.{length-take-le}
use Rattle.std.specs.Prelude.{Ok, Err, Option, Some, is_some, map}
use Rattle.values.specs.Words.{Bytes}
use Rattle.kinds.specs.Kind.{sources_fit}
use Rattle.reading.specs.Order.{Wire}
use Rattle.records.specs.declared.answer.Answer.{Answer}
use Rattle.records.specs.Answer.{answer}
use Rattle.boards.specs.Board.{blank}
use Rattle.boards.specs.Judge.{read_board}
use Rattle.boards.specs.Read.{Read, parsed_of}
use Rattle.boards.specs.Wires.{wire_of}
use Rattle.boards.specs.declared.board.Board.{Board}
use Rattle.graph.specs.Visit.{visiting_list, Lists}
use Rattle.graph.specs.Walking.{Gathered}
use Rattle.graph.specs.declared.graph.Order.{Order}
use Rattle.graph.proofs.Wired as graph
use Rattle.carrying.specs.Carried.{wired, older, pulled}
use Rattle.carrying.specs.Skimming.{Carries}
use Rattle.wiring.specs.Rewire.{wiring, refusal, pulled_board}
use Rattle.wiring.specs.Rewiring.{newest_place, Pulls}
use Rattle.wiring.specs.declared.rewire.Wiring.{Wiring}
use Rattle.wiring.proofs.Answered.{pulled_by}
use Rattle.wiring.proofs.Boards.{takes, pull_refused, listed_once, wires_are, pulled_ends, pulls, pulled_like, gone, one_less, pulled_under, pulled_only}
use Rattle.wiring.proofs.Newest.{Found, found, some_there, none_found, older_wires}
use Rattle.wiring.proofs.rewire.pulled.Goals as goal

-- ---- a board that was read, and the newest wire from one node to another at the place j

record At (s : List ℕ) (b : Board) (from to j : ℕ) : Type 0 where
  read : Read (read_board s) (Ok b)
  small : Bytes s
  it : Found (parsed_of b).wires from to j

-- the list in which it was looked for is that of the board's wires
newest_there : {s : List ℕ} (b : Board) {from to j : ℕ} {l : List (ℕ × ℕ)} {o : Option ℕ} → Read (read_board s) (Ok b) → Bytes s → l ≡ take b.wires.count b.wires.list
    → o ≡ newest_place (map wire_of l) from to → o ≡ Some j → At s b from to j
newest_there b {from} {to} {j} read small listed newest is =
    record {
      read = read;
      small = small;
      it = found (parsed_of b).wires from to j (ap (λ (l : List (ℕ × ℕ)). newest_place (map wire_of l) from to) (sym listed) ∙ sym newest ∙ is);
    }

module _ {s : List ℕ} {b : Board} {from to j : ℕ} (k : At s b from to j) where
  abbrev ws : List Wire
  ws = (parsed_of b).wires

  few : (b.count ≤ 64) × (j < b.wires.count) × (j < 128)
  few = (b.few, omega (arith, k.it.inside, wires_are s b k.read), omega (arith, k.it.inside, wires_are s b k.read, b.wires.few))

  -- its ends are nodes
  ends : (from < 64) × (to < 64)
  ends =
      let e = pulled_ends s b k.read k.small from to k.it.there in
      (le_trans e.0 few.0, le_trans e.1 few.0)

  target_few : get_or b.sources.counts to 0 ≤ 8
  target_few = (graph.table s b k.read).few to ends.1

  -- an older like wire is there, or none
  older_has : {l : List (ℕ × ℕ)} {o : Option ℕ} {t f : Bool} → l ≡ take b.wires.count b.wires.list → o ≡ newest_place (map wire_of (take j l)) from to → t ≡ is_some o → t ≡ f
      → wired (older ws from to) from to ≡ f
  older_has {f = f} listed e i h =
      let looked : map wire_of (take j (take b.wires.count b.wires.list)) ≡ older ws from to =
      ap (λ (n : ℕ). map wire_of (take n (take b.wires.count b.wires.list))) k.it.place_is ∙ older_wires (take b.wires.count b.wires.list) from to k.it.there in
      some_there (older ws from to) from to f
      (ap (λ (v : List Wire). is_some (newest_place v from to)) (sym (ap (λ (l : List (ℕ × ℕ)). map wire_of (take j l)) listed ∙ looked)) ∙ ap is_some (sym e) ∙ sym i ∙ h)

  -- the list of the old board
  was : {nodes : List ℕ} {count : ℕ} → ((v : List Wire) → Gathered v b.sources.counts b.sources.lists → Lists (visiting_list v) nodes count)
      → Lists (visiting_list ws) nodes count
  was h = h ws (graph.gathered s b k.read)

  -- the list carried over
  now_listed : {size count : ℕ} {old nodes : List ℕ} → wired (older ws from to) from to ≡ false
      → Lists (visiting_list ws) old size → Carries b.sources.counts b.sources.lists old size false from to nodes count
      → Lists (visiting_list (pulled ws from to)) nodes count
  now_listed last l h = h.pulled_list refl ws k.it.there (gone s b k.read k.small from to k.it.there last) (graph.gathered s b k.read) l.same

  -- what check 6 makes of the target, which has n sources
  judged : {n : ℕ} {t f : Bool} → t ≡ sources_fit (get_or b.nodes to blank).kind (n - 1) → n ≡ get_or b.sources.counts to 0 → t ≡ f
      → takes b to (get_or b.sources.counts to 0 - 1) ≡ f
  judged h e f = sym (h ∙ ap (λ (n : ℕ). takes b to (n - 1)) e) ∙ f

  module _ {source target : ℕ} (from_is : from ≡ source) (to_is : to ≡ target) where
    -- the answers, by the ends as they came
    done : (o : Order) → wiring 0 0 (take o.count o.nodes) ≡ (pulled_board from to s).0 → Pulls s source target (Ok (o, 8 + 14 * b.count + 8 * j))
    done o h =
        subst₂ (λ (x y : ℕ). Pulls s x y (Ok (o, 8 + 14 * b.count + 8 * j))) from_is to_is
        (pulls s b k.read k.small from to k.it.there o (8 + 14 * b.count + 8 * j) j k.it.place_is refl h)

    six : {a : Answer} → a ≡ answer 6 to → refusal 6 to ≡ (pulled_board from to s).0 → Pulls s source target (Err a)
    six e h = (
      omega (arith, ap (λ (r : Answer). r.number) e),
      ap (λ (r : Answer). refusal r.number r.place) e ∙ subst₂ (λ (x y : ℕ). refusal 6 to ≡ (pulled_board x y s).0) from_is to_is h,
    )

pub returns-in_err-board : goal.returns-in_err-board
returns-in_err-board c = pull_refused _ _ _ _ _ c.from_residual.ensures.1 c.in_err-board.ensures

-- ---- 16

pub returns-in_default : goal.returns-in_default
returns-in_default c =
    let s = c.args.s.now in
    let b = c.in_ok-board.board in
    let x = c.from-from.result in
    let y = c.from-to.result in
    let p = parsed_of b in
    let none = none_found p.wires x y (ap (λ (l : List (ℕ × ℕ)). newest_place (map wire_of l) x y) (sym c.listed-wires.ensures) ∙ sym c.newest.ensures ∙ c.in_default.is) in
    let answer = c.new.ensures in
    let sixteen : refusal 16 y ≡ (pulled_board x y s).0 = sym (ap (λ (d : Wiring × List ℕ). d.0) (pulled_by s x y p c.in_ok-board.ensures false none)) in (
      omega (arith, ap (λ (r : Answer). r.number) answer),
      ap (λ (r : Answer). refusal r.number r.place) answer
          ∙ subst₂ (λ (v w : ℕ). refusal 16 y ≡ (pulled_board v w s).0) c.from-from.ensures c.from-to.ensures sixteen,
    )

pub overflow_mul-at-2 : goal.overflow_mul-at-2
overflow_mul-at-2 c =
    let k = newest_there c.in_ok-board.board c.in_ok-board.ensures (λ i. omega (arith, c.type_inv.s i)) c.listed-wires.ensures c.newest.ensures c.in-Some.is in
    omega (arith, few k)

pub overflow_add-at-2 : goal.overflow_add-at-2
overflow_add-at-2 c =
    let k = newest_there c.in_ok-board.board c.in_ok-board.ensures (λ i. omega (arith, c.type_inv.s i)) c.listed-wires.ensures c.newest.ensures c.in-Some.is in
    omega (arith, few k)

-- ---- the old list, and an older like wire

pub visiting_list-was-requires : goal.visiting_list-was-requires
visiting_list-was-requires c = graph.table _ c.in_ok-board.board c.in_ok-board.ensures

pub slice_bounds-newest-end : goal.slice_bounds-newest-end
slice_bounds-newest-end c =
    let b = c.in_ok-board.board in
    let k = newest_there b c.in_ok-board.ensures (λ i. omega (arith, c.type_inv.s i)) c.listed-wires.ensures c.newest.ensures c.in-Some.is in
    let all = ap length c.listed-wires.ensures ∙ length-take-le b.wires.count b.wires.list (omega (arith, b.wires.few, b.wires.long)) in
    sym (length-take-le c.in-Some.place c.listed-wires.result.now (omega (arith, all, (few k).1)))

pub returns-then-is_some : goal.returns-then-is_some
returns-then-is_some c =
    let b = c.in_ok-board.board in
    let k = newest_there b c.in_ok-board.ensures (λ i. omega (arith, c.type_inv.s i)) c.listed-wires.ensures c.newest.ensures c.in-Some.is in
    let stays = older_has k c.listed-wires.ensures c.newest-2.ensures c.is_some.ensures c.if-is_some.true in
    done k c.from-from.ensures c.from-to.ensures c.visiting_list-was.result
    (pulled_like _ b k.read k.small _ _ k.it.there stays _ _ (was k c.visiting_list-was.ensures))

pub of-n-requires : goal.of-n-requires
of-n-requires c =
    let k = newest_there c.in_ok-board.board c.in_ok-board.ensures (λ i. omega (arith, c.type_inv.s i)) c.listed-wires.ensures c.newest.ensures c.in-Some.is in
    ((ends k).1, target_few k)

pub bounds-board-to : goal.bounds-board-to
bounds-board-to c =
    let k = newest_there c.in_ok-board.board c.in_ok-board.ensures (λ i. omega (arith, c.type_inv.s i)) c.listed-wires.ensures c.newest.ensures c.in-Some.is in
    (ends k).1

-- ---- 6 at the target

pub overflow_sub-n : goal.overflow_sub-n
overflow_sub-n c =
    let b = c.in_ok-board.board in
    let k = newest_there b c.in_ok-board.ensures (λ i. omega (arith, c.type_inv.s i)) c.listed-wires.ensures c.newest.ensures c.in-Some.is in
    let last = older_has k c.listed-wires.ensures c.newest-2.ensures c.is_some.ensures c.if-is_some.false in
    omega (arith, c.of-n.ensures.count, one_less _ b k.read k.small _ _ k.it.there last)

pub returns-then-not-sources_fit : goal.returns-then-not-sources_fit
returns-then-not-sources_fit c =
    let b = c.in_ok-board.board in
    let k = newest_there b c.in_ok-board.ensures (λ i. omega (arith, c.type_inv.s i)) c.listed-wires.ensures c.newest.ensures c.in-Some.is in
    let last = older_has k c.listed-wires.ensures c.newest-2.ensures c.is_some.ensures c.if-is_some.false in
    six k c.from-from.ensures c.from-to.ensures c.new-then-not-sources_fit.ensures
    (pulled_under _ b k.read k.small _ _ k.it.there last (judged k c.sources_fit.ensures c.of-n.ensures.count c.if-not-sources_fit.true))

-- ---- the list carried over

pub carried_list-requires : goal.carried_list-requires
carried_list-requires c =
    let b = c.in_ok-board.board in
    let k = newest_there b c.in_ok-board.ensures (λ i. omega (arith, c.type_inv.s i)) c.listed-wires.ensures c.newest.ensures c.in-Some.is in
    (graph.table _ b k.read, listed_once _ b k.read _ _ (was k c.visiting_list-was.ensures), (ends k).0, (ends k).1)

pub returns : goal.returns
returns c =
    let b = c.in_ok-board.board in
    let k = newest_there b c.in_ok-board.ensures (λ i. omega (arith, c.type_inv.s i)) c.listed-wires.ensures c.newest.ensures c.in-Some.is in
    let last = older_has k c.listed-wires.ensures c.newest-2.ensures c.is_some.ensures c.if-is_some.false in
    let fits = judged k c.sources_fit.ensures c.of-n.ensures.count c.if-not-sources_fit.false in
    done k c.from-from.ensures c.from-to.ensures c.carried_list.result
    (pulled_only _ b k.read k.small _ _ k.it.there last fits _ _ (now_listed k last (was k c.visiting_list-was.ensures) c.carried_list.ensures))
