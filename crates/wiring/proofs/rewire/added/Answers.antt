-- `wiring::rewire::added` meets its contract: the old board is judged, then the wire, then its target by check 6. Assumes nothing.
use Prim.Native.Nat.{ℕ, ◌+◌, ◌*◌, ◌<◌, ◌≤◌}
use mathlib.Core.Path.{◌≡◌, refl, sym, ap, ap₂, subst₂, ◌∙◌}
use mathlib.Core.Bool.{Bool, true, false}
use mathlib.Core.List.{List}
use native.Mathlib.Nat.{le_trans}
use native.Mathlib.Omega.{arith}
use lib.ListN.{length, get_or, set, take}
use Rattle.std.specs.Prelude.{Ok, Err, Option, is_some, map}
use Rattle.values.specs.Words.{Bytes}
use Rattle.records.specs.declared.answer.Answer.{Answer}
use Rattle.records.specs.Answer.{answer}
use Rattle.kinds.specs.Kind.{sources_fit}
use Rattle.reading.specs.Table.{mem}
use Rattle.reading.specs.Order.{Wire, sources}
use Rattle.boards.specs.Board.{blank, wire_fits}
use Rattle.boards.specs.Judge.{read_board}
use Rattle.boards.specs.Read.{Read, parsed_of}
use Rattle.boards.specs.Wires.{wire_of}
use Rattle.graph.specs.Visit.{visiting_list, Lists}
use Rattle.graph.specs.Walking.{Table, Gathered}
use Rattle.boards.specs.declared.board.Board.{Board}
use Rattle.graph.proofs.Accepted.{count_is}
use Rattle.boards.proofs.Fits.{wire_fits_lem}
use Rattle.graph.proofs.Wired as graph
use Rattle.carrying.specs.Carried.{added, wired}
use Rattle.carrying.specs.Skimming.{Carries}
use Rattle.wiring.specs.Rewire.{refusal, added_board}
use Rattle.wiring.specs.Rewiring.{newest_place, Adds}
use Rattle.wiring.specs.declared.rewire.Wiring.{Wiring}
use Rattle.wiring.proofs.Answered.{added_five}
use Rattle.wiring.proofs.Boards.{takes, add_refused, below_64, listed_once, wires_are, eight, added_into, added_like, added_over, added_new}
use Rattle.wiring.proofs.Gathers.{table_more, gathered_more}
use Rattle.wiring.proofs.Newest.{some_there}
use Rattle.carrying.proofs.Tables.{wired-mem}
use Rattle.wiring.proofs.Written.{read_long}
use Rattle.wiring.proofs.rewire.added.Goals as goal

-- ---- a board that was read, and a wire that fits it

record Fits (s : List ℕ) (b : Board) (source target from to : ℕ) : Type 0 where
  read : Read (read_board s) (Ok b)
  small : Bytes s
  from_is : from ≡ source
  to_is : to ≡ target
  fits : wire_fits b.count b.wires.count from to ≡ true

-- how long the board is
long : (s : List ℕ) (b : Board) → Read (read_board s) (Ok b) → Bytes s → (4 ≤ length s) × (length s ≤ 1932)
long s b read small =
    let l = read_long s small (parsed_of b) read in
    (omega (arith, l), omega (arith, l, count_is s b read, wires_are s b read, b.few, b.wires.few))

-- a wire that fits, by its ends as indices
fitting : {s : List ℕ} (b : Board) {source target from to : ℕ} {f : Bool} → Read (read_board s) (Ok b) → Bytes s → from ≡ source → to ≡ target
    → f ≡ wire_fits b.count b.wires.count source target → f ≡ true → Fits s b source target from to
fitting b read small x y e f =
    record { read = read; small = small; from_is = x; to_is = y; fits = ap₂ (wire_fits b.count b.wires.count) x y ∙ sym e ∙ f }

module _ {s : List ℕ} {b : Board} {source target from to : ℕ} (k : Fits s b source target from to) where
  abbrev ws : List Wire
  ws = (parsed_of b).wires

  -- what the changed board is answered, by the ends as they came
  told : {r : Wiring} → r ≡ (added_board from to s).0 → r ≡ (added_board source target s).0
  told {r} = subst₂ (λ (x y : ℕ). r ≡ (added_board x y s).0) k.from_is k.to_is

  six : {a : Answer} → a ≡ answer 6 to → refusal 6 to ≡ (added_board from to s).0 → Adds s source target (Err a)
  six e h = (omega (arith, ap (λ (r : Answer). r.number) e), ap (λ (r : Answer). refusal r.number r.place) e ∙ told h)

  -- the list of the old board
  was : {nodes : List ℕ} {count : ℕ} → ((v : List Wire) → Gathered v b.sources.counts b.sources.lists → Lists (visiting_list v) nodes count)
      → Lists (visiting_list ws) nodes count
  was h = h ws (graph.gathered s b k.read)

  -- a like wire is there, or none
  there : {l : List (ℕ × ℕ)} {o : Option ℕ} {t f : Bool} → l ≡ take b.wires.count b.wires.list → o ≡ newest_place (map wire_of l) from to → t ≡ is_some o → t ≡ f
      → wired ws from to ≡ f
  there {f = f} listed e i h =
      some_there ws from to f (ap (λ (l : List (ℕ × ℕ)). is_some (newest_place (map wire_of l) from to)) (sym listed) ∙ ap is_some (sym e) ∙ sym i ∙ h)

  -- the ends are nodes
  ends : (from < 64) × (to < 64)
  ends =
      let f = wire_fits_lem b.count b.wires.count from to k.fits in
      (le_trans f.obeys.source_there b.few, le_trans f.obeys.target_there b.few)

  few : get_or b.sources.counts to 0 ≤ 8
  few = (graph.table s b k.read).few to ends.1

  -- what check 6 makes of the target, which has n sources
  judged : {n : ℕ} {f t : Bool} → t ≡ sources_fit (get_or b.nodes to blank).kind (n + 1) → n ≡ get_or b.sources.counts to 0 → t ≡ f
      → takes b to (get_or b.sources.counts to 0 + 1) ≡ f
  judged h e f = sym (h ∙ ap (λ (n : ℕ). takes b to (n + 1)) e) ∙ f

  module _ (passes : takes b to (get_or b.sources.counts to 0 + 1) ≡ true) where
    room : get_or b.sources.counts to 0 < 8
    room = omega (arith, eight s b k.read to _ passes)

    -- the table with the wire
    table : {counts lists : List ℕ} → counts ≡ set b.sources.counts to (get_or b.sources.counts to 0 + 1)
        → lists ≡ set b.sources.lists (8 * to + get_or b.sources.counts to 0) source → Table counts lists
    table c l =
        rw (c, l, ← k.from_is)
        (table_more b.sources.counts b.sources.lists (graph.table s b k.read) b.table.counts_long b.table.lists_long from to ends.1 room ends.0)

    -- the list carried over
    now_listed : {size count : ℕ} {counts lists old nodes : List ℕ} → counts ≡ set b.sources.counts to (get_or b.sources.counts to 0 + 1)
        → lists ≡ set b.sources.lists (8 * to + get_or b.sources.counts to 0) source → mem from (sources ws to) ≡ false → Lists (visiting_list ws) old size
        → Carries counts lists old size true from to nodes count → Lists (visiting_list (added ws from to)) nodes count
    now_listed c l new o h =
        h.added_list refl ws (below_64 s b k.read) new
        (rw (c, l, ← k.from_is)
        (gathered_more b.sources.counts b.sources.lists (graph.table s b k.read) b.table.counts_long b.table.lists_long from to ends.1 room ws (graph.gathered s b k.read) new))
        o.same

pub returns-in_err-board : goal.returns-in_err-board
returns-in_err-board c = add_refused _ _ _ _ _ c.from_residual.ensures.1 c.in_err-board.ensures

pub overflow_sub-s : goal.overflow_sub-s
overflow_sub-s c = (long _ c.in_ok-board.board c.in_ok-board.ensures (λ i. omega (arith, c.type_inv.s i))).0

pub new-requires : goal.new-requires
new-requires c = omega (arith, long _ c.in_ok-board.board c.in_ok-board.ensures (λ i. omega (arith, c.type_inv.s i)))

pub returns-then-not-wire_fits : goal.returns-then-not-wire_fits
returns-then-not-wire_fits c =
    let a = c.args in
    let s = a.s.now in
    let b = c.in_ok-board.board in
    let read = c.in_ok-board.ensures in
    let fails : wire_fits (length (parsed_of b).nodes) (length (parsed_of b).wires) a.source a.target ≡ false =
    (λ i. wire_fits (count_is s b read i) (wires_are s b read i) a.source a.target) ∙ sym c.wire_fits.ensures ∙ c.if-not-wire_fits.true in
    let answer = c.new.ensures in (
      omega (arith, ap (λ (r : Answer). r.number) answer),
      ap (λ (r : Answer). refusal r.number r.place) answer
          ∙ sym (added_five s a.source a.target (parsed_of b) read (λ i. omega (arith, c.type_inv.s i)) (omega arith) (omega arith) fails),
    )

pub returns-then-to-board : goal.returns-then-to-board
returns-then-to-board c =
    let b = c.in_ok-board.board in
    let k = fitting b c.in_ok-board.ensures (λ i. omega (arith, c.type_inv.s i)) c.from-from.ensures c.from-to.ensures c.wire_fits.ensures c.if-not-wire_fits.false in
    six k c.new-then-to-board.ensures (added_into _ b k.read k.small _ _ k.fits c.if-to-board.true)

-- ---- the old list, and a like wire

pub visiting_list-was-requires : goal.visiting_list-was-requires
visiting_list-was-requires c = graph.table _ c.in_ok-board.board c.in_ok-board.ensures

pub returns-then-is_some : goal.returns-then-is_some
returns-then-is_some c =
    let b = c.in_ok-board.board in
    let k = fitting b c.in_ok-board.ensures (λ i. omega (arith, c.type_inv.s i)) c.from-from.ensures c.from-to.ensures c.wire_fits.ensures c.if-not-wire_fits.false in
    let is = there k c.listed.ensures c.newest.ensures c.is_some.ensures c.if-is_some.true in
    told k (added_like _ b k.read k.small _ _ k.fits c.if-to-board.false is _ _ (was k c.visiting_list-was.ensures))

-- ---- check 6 at the target

pub of-n-requires : goal.of-n-requires
of-n-requires c =
    let b = c.in_ok-board.board in
    let k = fitting b c.in_ok-board.ensures (λ i. omega (arith, c.type_inv.s i)) c.from-from.ensures c.from-to.ensures c.wire_fits.ensures c.if-not-wire_fits.false in
    ((ends k).1, few k)

pub returns-then-not-sources_fit : goal.returns-then-not-sources_fit
returns-then-not-sources_fit c =
    let b = c.in_ok-board.board in
    let k = fitting b c.in_ok-board.ensures (λ i. omega (arith, c.type_inv.s i)) c.from-from.ensures c.from-to.ensures c.wire_fits.ensures c.if-not-wire_fits.false in
    let new = sym (wired-mem (parsed_of b).wires _ _) ∙ there k c.listed.ensures c.newest.ensures c.is_some.ensures c.if-is_some.false in
    six k c.new-then-not-sources_fit.ensures
    (added_over _ b k.read k.small _ _ k.fits c.if-to-board.false new (judged k c.sources_fit.ensures c.of-n.ensures.count c.if-not-sources_fit.true))

-- ---- the table with the wire, and the list carried over

pub push-requires : goal.push-requires
push-requires c =
    let b = c.in_ok-board.board in
    let k = fitting b c.in_ok-board.ensures (λ i. omega (arith, c.type_inv.s i)) c.from-from.ensures c.from-to.ensures c.wire_fits.ensures c.if-not-wire_fits.false in
    ((ends k).1, room k (judged k c.sources_fit.ensures c.of-n.ensures.count c.if-not-sources_fit.false))

pub carried_list-requires : goal.carried_list-requires
carried_list-requires c =
    let b = c.in_ok-board.board in
    let k = fitting b c.in_ok-board.ensures (λ i. omega (arith, c.type_inv.s i)) c.from-from.ensures c.from-to.ensures c.wire_fits.ensures c.if-not-wire_fits.false in
    let passes = judged k c.sources_fit.ensures c.of-n.ensures.count c.if-not-sources_fit.false in
    let l = was k c.visiting_list-was.ensures in
    (table k passes c.push.ensures.counts c.push.ensures.lists, listed_once _ b k.read _ _ l, (ends k).0, (ends k).1)

pub returns : goal.returns
returns c =
    let b = c.in_ok-board.board in
    let k = fitting b c.in_ok-board.ensures (λ i. omega (arith, c.type_inv.s i)) c.from-from.ensures c.from-to.ensures c.wire_fits.ensures c.if-not-wire_fits.false in
    let new = sym (wired-mem (parsed_of b).wires _ _) ∙ there k c.listed.ensures c.newest.ensures c.is_some.ensures c.if-is_some.false in
    let passes = judged k c.sources_fit.ensures c.of-n.ensures.count c.if-not-sources_fit.false in
    let l = was k c.visiting_list-was.ensures in
    told k (added_new _ b k.read k.small _ _ k.fits c.if-to-board.false new passes _ _
    (now_listed k passes c.push.ensures.counts c.push.ensures.lists new l c.carried_list.ensures))
