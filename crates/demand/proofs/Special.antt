-- Document 01's demand 3 is the case without changes: the claim of crates/samples about a list of calls follows from the claim about these requests.
--     heard_lift       calls among the requests do what they do on a board whose wires stay
--     without_changes, with_wiring    a reading of them is one on a board whose wires stay, and the other way round
--     special          the claim; special_demand, the whole demand
-- Assumes nothing.
use Prim.Native.Nat.{ℕ, zero, suc, ◌+◌, ◌*◌, ◌/◌, ◌%◌, ◌<◌}
use mathlib.Core.Path.{◌≡◌, refl, sym, ap, subst, ◌∙◌}
use mathlib.Core.Bool.{Bool, true, false, cond, ◌&&◌, and-eq-true_iff}
use mathlib.Core.List.{List, [], ◌∷◌, ◌++◌, map, map-append}
use borrow.Author.Tests.{eqb-true, eq-eqb}
use lib.Dec.{eqb}
use lib.ListN.{length, get_or}
use Rattle.values.specs.Words.{Bytes, unwords}
use Rattle.leaves.specs.Converter.{floats_of}
use Rattle.kinds.specs.Kind.{channels_of}
use Rattle.kinds.specs.Rule.{Frame}
use Rattle.kinds.specs.Cell.{values_of}
use Rattle.kinds.specs.History.{Heard, fresh_heard, set_number, sample_heard, heard_after, state_of}
use Rattle.reading.specs.Table.{joined}
use Rattle.reading.specs.Order.{Wire, Reorders}
use Rattle.reading.specs.Visit.{start}
use Rattle.reading.specs.Effect.{Effect, run, set, rewire, inputs, blocks, wiring_after, wiring_in, told, heard}
use Rattle.reading.specs.Time.{Timed, last_block}
use Rattle.reading.specs.Calls.{replies, after_calls}
use Rattle.boards.specs.Board.{Parsed, Progress, whole}
use Rattle.boards.specs.Judge.{read_board}
use Rattle.boards.specs.BoardParts.{wired as with_wires}
use Rattle.memory.specs.Memory.{kind_at, listed}
use Rattle.context.specs.Block.{Outcome, as_left, check_block, ran_block, block_in}
use Rattle.memory.specs.Calls.{check_memory, call_by}
use Rattle.packed.specs.Packed.{packed, check_packed_blocks, packed_in}
use Rattle.records.specs.declared.answer.Answer.{Answer}
use Rattle.samples.specs.Reading.{Call, block, block24, message, accepts, done, effects, Fixed, mono, silence, reached, ago_n, brought_to, IsReading, IsReadingOn, samples_of, Reply, reply_to, replies_to}
use Rattle.samples.specs.Reading as base
use Rattle.samples.specs.Claim.{replied as replied-by, call_in, fresh_memory, AsRead, Claim, Demand}
use Rattle.memory.specs.Fine.{Fine}
use Rattle.memory.proofs.FineBoard.{fine_board, lists}
use Rattle.samples.proofs.ShownCall.{effects-wiring}
use Rattle.samples.proofs.DemandReading as full
use Rattle.samples.proofs.DemandAfter.{accepted-whole, memory_shown, replies_same}
use Rattle.demand.specs.Requests.{Lent, board_in, wires_read, wires_on, call, effects_of, board_at, IsRewired, Said, replied, wired, said_by}
use Rattle.demand.specs.Claim.{request_in, Orders, RewiredClaim, RewiredDemand}
use Rattle.records.proofs.RoundBytes.{bytes_front}
use Rattle.demand.proofs.Claim.{own_order}

-- ---- calls among the requests

-- what a call does on a board whose wires stay, where l is lent
abbrev pub lift : Lent → Effect Fixed ℕ ℕ → Effect Lent ℕ ℕ
lift l (run xs) = run xs
lift l (set k v) = set k v
lift l (rewire w) = rewire l

module _ (l : Lent) where
  abbrev lifted : List (Effect Fixed ℕ ℕ) → List (Effect Lent ℕ ℕ)
  lifted es = map (lift l) es

  inputs_lift : (es : List (Effect Fixed ℕ ℕ)) → inputs (lifted es) ≡ inputs es
  inputs_lift [] = refl
  inputs_lift (run xs ∷ es) = ap (λ (bs : List (List ℕ)). xs ∷ bs) (inputs_lift es)
  inputs_lift (set k v ∷ es) = inputs_lift es
  inputs_lift (rewire w ∷ es) = inputs_lift es

  told_lift : (es : List (Effect Fixed ℕ ℕ)) (b k : ℕ) (h : Heard) → told (λ j. set_number) (lifted es) b k h ≡ told (λ j. set_number) es b k h
  told_lift [] b k h = refl
  told_lift (run xs ∷ es) zero k h = refl
  told_lift (run xs ∷ es) (suc b) k h = told_lift es b k h
  told_lift (set j v ∷ es) zero k h = told_lift es zero k (cond (eqb k j) (set_number v h) h)
  told_lift (set j v ∷ es) (suc b) k h = told_lift es (suc b) k h
  told_lift (rewire w ∷ es) b k h = told_lift es b k h

  wiring_lift : (es : List (Effect Fixed ℕ ℕ)) (b : ℕ) → wiring_in l (lifted es) b ≡ l
  wiring_lift [] b = refl
  wiring_lift (run xs ∷ es) zero = refl
  wiring_lift (run xs ∷ es) (suc b) = wiring_lift es b
  wiring_lift (set k v ∷ es) b = wiring_lift es b
  wiring_lift (rewire w ∷ es) b = wiring_lift es b

  effects_lift : (p : Parsed) (c : Call) → effects p c ≡ lifted (effects p c)
  effects_lift p c = go (accepts p c)
    where
      one : (d : Call) → done d ≡ lifted (done d)
      one (block x y z) = refl
      one (block24 x y z) = refl
      one (message k w) = refl

      go : (b : Bool) → cond b (done c) [] ≡ lifted (cond b (done c) [])
      go true = one c
      go false = refl

  pub heard_lift : (p : Parsed) (cs : List Call) (v : Fixed) → heard (effects_of p) l (map call cs) ≡ map (lift l) (heard (λ w c. effects p c) v cs)
  unfolding heard
  heard_lift p [] v = refl
  heard_lift p (c ∷ cs) v =
      (λ i. effects_lift p c i ++ heard (effects_of p) (effects-wiring p l c i) (map call cs))
      ∙ ap (λ (es : List (Effect Lent ℕ ℕ)). lifted (effects p c) ++ es) (heard_lift p cs (wiring_after v (effects p c)))
      ∙ sym (map-append (lift l) (effects p c) (heard (λ w d. effects p d) (wiring_after v (effects p c)) cs))

-- ---- the reading

-- the equations, for the board at each time, the input blocks, and what messages make of a node before each block
abbrev Equations : Parsed → Timed Frame → Timed Heard → (ℕ → Parsed) × List (List ℕ) × (ℕ → ℕ → Heard → Heard) → Type 0
Equations p s u (board, ins, tells) =
    ((k : ℕ) → u 0 k ≡ tells 0 k (fresh_heard (kind_at p k)))
    × ((t k : ℕ) → t < length ins * p.size
    → s t k ≡ cond (reached (board t) k)
    (sample_heard (kind_at p k) (u t k) (cond (eqb k p.input) (mono (get_or (get_or ins (t / p.size) []) (t % p.size) 0)) (ago_n p s t k)) (brought_to (board t) s t k))
    (cond (eqb k p.input) (mono (get_or (get_or ins (t / p.size) []) (t % p.size) 0)) (ago_n p s t k)))
    × ((t k : ℕ) → t < length ins * p.size
    → u (suc t) k ≡ cond (eqb (suc t % p.size) 0)
    (tells (suc t / p.size) k (cond (reached (board t) k) (heard_after (kind_at p k) (u t k) (brought_to (board t) s t k)) (u t k)))
    (cond (reached (board t) k) (heard_after (kind_at p k) (u t k) (brought_to (board t) s t k)) (u t k)))

module _ (p : Parsed) (l : Lent) (reads : read_board (board_in l) ≡ whole p) (es : List (Effect Fixed ℕ ℕ)) (s : Timed Frame) (u : Timed Heard) where
  -- the board stays
  stays : ◌≡◌ {A = (ℕ → Parsed) × List (List ℕ) × (ℕ → ℕ → Heard → Heard)}
      (board_at p l (map (lift l) es), inputs (map (lift l) es), told (λ j. set_number) (map (lift l) es)) (λ t. p, inputs es, told (λ j. set_number) es)
  stays = λ i. (
    λ t. with_wires p ((ap wires_on (wiring_lift l es (t / p.size)) ∙ ap wires_read reads) i),
    inputs_lift l es i,
    λ b k h. told_lift l es b k h i,
  )

  pub without_changes : IsRewired p l (map (lift l) es) s u → IsReadingOn p (λ t. p) es s u
  without_changes r =
      let a = subst (Equations p s u) stays (r.first, r.sample, r.next) in record { first = a.0; sample = a.1; next = a.2 }

  pub with_wiring : IsReadingOn p (λ t. p) es s u → IsRewired p l (map (lift l) es) s u
  with_wiring r =
      let a = subst (Equations p s u) (sym stays) (r.first, r.sample, r.next) in record { first = a.0; sample = a.1; next = a.2 }

-- ---- replies

said_alike : (p : Parsed) (s : Timed Frame) (l : Lent) (b : ℕ) (cs : List Call) → said_by p s l b (map call cs) ≡ map replied (replies_to p s b cs)
unfolding said_by replies_to
said_alike p s l b [] = refl
said_alike p s l b (c ∷ cs) =
    let count : blocks {W = Lent} (effects p c) ≡ blocks {W = Fixed} (effects p c) =
    ap (blocks {W = Lent}) (effects_lift l p c) ∙ ap length (inputs_lift l (effects p c)) in
    let n : ℕ = b + blocks {W = Fixed} (effects p c) in
    (λ i. replied (reply_to p c (last_block p.size silence s (b + count i) 0)) ∷ said_by p s (effects-wiring p l c i) (b + count i) (map call cs))
    ∙ ap (λ (rs : List Said). replied (reply_to p c (last_block p.size silence s n 0)) ∷ rs) (said_alike p s l n cs)

module _ (order : Parsed → List ℕ) (l : Lent) where
  pub replies_alike : (cs : List Call) (m : List ℕ)
      → replies (request_in order) (map call cs) (l, m) ≡ map replied (replies (call_in order (board_in l)) cs m)
  replies_alike [] m = refl
  replies_alike (c ∷ cs) m =
      ap (λ (rs : List Said). replied (call_in order (board_in l) c m).1 ∷ rs) (replies_alike cs (call_in order (board_in l) c m).0)

  pub after_alike : (cs : List Call) (m : List ℕ)
      → after_calls (request_in order) (map call cs) (l, m) ≡ (l, after_calls (call_in order (board_in l)) cs m)
  after_alike [] m = refl
  after_alike (c ∷ cs) m = after_alike cs (call_in order (board_in l) c m).0

-- ---- an order for one board, as one for each

abbrev same_wires : List Wire → List Wire → Bool
same_wires [] [] = true
same_wires [] (v ∷ vs) = false
same_wires (w ∷ ws) [] = false
same_wires (w ∷ ws) (v ∷ vs) = eqb w.source v.source && (eqb w.target v.target && same_wires ws vs)

wires_refl : (ws : List Wire) → same_wires ws ws ≡ true
wires_refl [] = refl
wires_refl (w ∷ ws) = λ i. eq-eqb w.source w.source refl i && (eq-eqb w.target w.target refl i && wires_refl ws i)

wires_equal : (ws vs : List Wire) → same_wires ws vs ≡ true → ws ≡ vs
wires_equal [] [] e = refl
wires_equal [] (v ∷ vs) e = cc
wires_equal (w ∷ ws) [] e = cc
wires_equal (w ∷ ws) (v ∷ vs) e =
    let a = (and-eq-true_iff (eqb w.source v.source) (eqb w.target v.target && same_wires ws vs)).0 e in
    let b = (and-eq-true_iff (eqb w.target v.target) (same_wires ws vs)).0 a.1 in
    let source = eqb-true w.source v.source a.0 in
    let target = eqb-true w.target v.target b.0 in
    λ i. record { source = source i; target = target i } ∷ wires_equal ws vs b.1 i

module _ (p : Parsed) (order : Parsed → List ℕ) where
  -- the order given for p, and the visiting lists for the others
  abbrev order_for : Parsed → List ℕ
  order_for q = cond (same_wires q.wires p.wires) (order p) (listed q)

  order_is : order_for p ≡ order p
  order_is = ap (λ (b : Bool). cond b (order p) (listed p)) (wires_refl p.wires)

  orders_fit : Reorders p.wires (listed p) (order p) → Orders p order_for
  orders_fit fit board h ws e = go (same_wires ws p.wires) refl
    where
      go : (b : Bool) → same_wires ws p.wires ≡ b → Reorders ws (listed (with_wires p ws)) (cond b (order p) (listed (with_wires p ws)))
      go true q = subst (λ (vs : List Wire). Reorders vs (listed (with_wires p vs)) (order p)) (sym (wires_equal ws p.wires q)) fit
      go false q = own_order p board h ws e

-- A call on a board that is read as p looks at no other order. A block run, by what finds it refused, its check, and its run in an order:
module _ (board : List ℕ) (p : Parsed) (reads : read_board board ≡ whole p) (o order : Parsed → List ℕ) (e : o p ≡ order p) where
  module _ (found : Answer → Outcome) (check : Parsed → Answer) (ran : Parsed → List ℕ → Outcome) where
    of : Outcome → List ℕ × Reply
    of d = (d.memory, replied-by d)

    by : (Parsed → List ℕ) → Progress → List ℕ × Reply
    by f d = of (call_by found check (λ q. ran q (f q)) d)

    run_alike : by o (read_board board) ≡ by order (read_board board)
    unfolding by
    run_alike = ap (by o) reads ∙ ap (λ (k : List ℕ). of (cond (eqb (check p).number 0) (ran p k) (found (check p)))) e ∙ sym (ap (by order) reads)

  call_alike : (c : Call) (m : List ℕ) → call_in o board c m ≡ call_in order board c m
  unfolding block_in packed_in by of
  call_alike (block x l r) m = run_alike (λ a. as_left a m l r) (λ q. check_block q m x l r) (λ q k. ran_block q k x m)
  call_alike (block24 x l r) m =
      run_alike (λ a. as_left a m l r) (λ q. check_memory q m (check_packed_blocks q x l r)) (λ q k. packed (ran_block q k (floats_of x) m))
  call_alike (message k w) m = refl

plain : List Said → List Reply
plain [] = []
plain (replied r ∷ rs) = r ∷ plain rs
plain (wired w ∷ rs) = plain rs

plain-replied : (rs : List Reply) → plain (map replied rs) ≡ rs
unfolding plain
plain-replied [] = refl
plain-replied (r ∷ rs) = ap (λ (l : List Reply). r ∷ l) (plain-replied rs)

-- ---- the claim

module _ (p : Parsed) (l : Lent) (small : Bytes (board_in l)) (reads : read_board (board_in l) ≡ whole p) (cs : List Call)
    (claim : RewiredClaim p l (map call cs)) where
  abbrev board : List ℕ
  board = board_in l

  abbrev es : List (Effect Fixed ℕ ℕ)
  es = base.accepted p cs

  abbrev fine : Fine p
  fine = fine_board board small p reads

  module _ (s : Timed Frame) (u : Timed Heard) (r : IsReading p es s u)
      (order : Parsed → List ℕ) (fit : Reorders p.wires (listed p) (order p)) where
    abbrev s' : Timed Frame
    s' = full.whole p fine es s

    abbrev u' : Timed Heard
    u' = full.before p fine es s u

    -- the memory, where n blocks have been run
    abbrev shown_at : ℕ → List ℕ
    shown_at n = unwords (joined (length p.nodes) (λ k. values_of (record {
      state = state_of (kind_at p k) (u' (n * p.size) k);
      samples = samples_of (channels_of (kind_at p k)) (last_block p.size silence s' n k);
    })))

    as_read : AsRead board p cs s u order
    as_read =
        let alike : call_in (order_for p order) board ≡ call_in order board =
        λ i c m. call_alike board p reads (order_for p order) order (order_is p order) c m i in
        let did = claim.as_read s' u'
        (subst (λ (hs : List (Effect Lent ℕ ℕ)). IsRewired p l hs s' u') (sym (heard_lift l p cs tt)) (with_wiring p l reads es s' u' (full.with_others p fine es s u r)))
        (order_for p order) (orders_fit p order fit) in
        let zero_same : (t : ℕ) → s' t 0 ≡ s t 0 = λ t. full.whole_reached p fine es s t 0 ((lists p fine).all 0 start) in
        record {
          replies = sym (plain-replied (replies (call_in order board) cs (fresh_memory p)))
              ∙ ap plain (ap (λ (f : Call → List ℕ → List ℕ × Reply). map replied (replies f cs (fresh_memory p))) (sym alike)
              ∙ sym (replies_alike (order_for p order) l cs (fresh_memory p)) ∙ did.replies ∙ said_alike p s' l 0 cs)
              ∙ plain-replied (replies_to p s' 0 cs)
              ∙ replies_same p s' s zero_same cs 0;
          memory = ap (λ (f : Call → List ℕ → List ℕ × Reply). after_calls f cs (fresh_memory p)) (sym alike)
              ∙ ap (λ (x : Lent × List ℕ). x.1) (sym (after_alike (order_for p order) l cs (fresh_memory p)) ∙ did.left)
              ∙ ap (λ (hs : List (Effect Lent ℕ ℕ)). shown_at (blocks hs)) (heard_lift l p cs tt)
              ∙ ap (λ (bs : List (List ℕ)). shown_at (length bs)) (inputs_lift l es)
              ∙ memory_shown p fine es s u r (accepted-whole p cs);
        }

  pub special : Claim (board_in l) p cs
  special = record {
    samples = claim.samples;
    known = claim.known;
    reads = full.on_reached p es claim.samples claim.known
        (without_changes p l reads es claim.samples claim.known
        (subst (λ (hs : List (Effect Lent ℕ ℕ)). IsRewired p l hs claim.samples claim.known) (heard_lift l p cs tt) claim.reads));
    as_read = as_read;
  }

pub special_demand : (l : Lent) → Bytes l.bytes → RewiredDemand l → Demand (board_in l)
special_demand l b d =
    let p : Parsed = d.parsed in
    let small = bytes_front l.used l.bytes b in
    record {
      parsed = p;
      reads = d.reads;
      fresh = d.fresh;
      own = d.own (board_in l) small p.wires d.reads;
      claim = λ cs. special p l small d.reads cs (d.claim (map call cs));
    }
