-- What an accepted change leaves, and what adding and then pulling the same wire does:
--     added_leaves, pulled_leaves    the board with one wire more, and without the newest such wire, as it is read
--     added_judged, pulled_judged    the answers: 5 of the wire, or 16, and then 6 of the changed board
--     returned                       added and pulled: the board comes back, and in the spare bytes stands the wire's end
-- Assumes nothing.
use Prim.Native.Nat.{ℕ, zero, suc, ◌+◌, ◌-◌, ◌*◌, ◌/◌, ◌%◌, ◌≤◌, ◌<◌}
use mathlib.Core.Path.{◌≡◌, refl, sym, ap, subst, ◌∙◌}
use mathlib.Core.Bool.{Bool, true, false, cond, ◌||◌, ◌&&◌}
use mathlib.Core.List.{List, [], ◌∷◌, ◌++◌, append_assoc}
use native.Mathlib.Nat.{add-mul-div_right, add-mul-mod_self_right}
use native.Mathlib.Omega.{arith}
use borrow.Author.Tests.{eq-eqb, ltb-false, le-ltb}
use lib.Dec.{ltb}
use lib.ListN.{length, get_or, take, drop, length-append}
use lib.Seq.{take_at, drop_at, length-take-le}
use Rattle.values.specs.Bytes.{u16_bytes}
use Rattle.values.specs.Words.{Bytes}
use Rattle.reading.specs.Order.{Wire, wire}
use Rattle.boards.specs.Board.{Parsed, Progress, going, refused, whole, wire_fits}
use Rattle.boards.specs.Judge.{read_board, check_six}
use Rattle.boards.specs.BoardParts.{wired as with_wires}
use Rattle.graph.specs.Visit.{visiting_list}
use Rattle.records.specs.Write.{wire_bytes, end_bytes}
use Rattle.boards.proofs.Ending.{Ended, board_ends}
use Rattle.boards.proofs.Formed.{six_same}
use Rattle.records.proofs.RoundBytes.{bytes_on, bytes_front}
use Rattle.carrying.specs.Carried.{added, joins, wired, older, newer, pulled}
use Rattle.wiring.specs.Rewire.{wiring, refusal, wiring_by, added_to, wire_at, closed_up, pulled_from, on_board, judged_anew, added_board, pulled_board, in_front, lent_for, add_of, pull_of, Leaves}
use Rattle.wiring.specs.declared.rewire.Wiring.{Wiring}
use Rattle.wiring.proofs.Answered.{added_whole, pulled_by, added_five, added_read, pulled_read, lent_short, lent_answer, lent_done}
use Rattle.carrying.proofs.Wires.{newest}
use Rattle.wiring.proofs.Written.{read_long, read_ends, added_small, pulled_small, board_parts, added_parts}

-- ---- bytes in front of others

append-bytes : (a b : List ℕ) → Bytes a → Bytes b → (i : ℕ) → get_or (a ++ b) i 0 < 256
append-bytes [] b ha hb i = hb i
append-bytes (x ∷ a) b ha hb zero = ha zero
append-bytes (x ∷ a) b ha hb (suc i) = append-bytes a b (λ j. ha (suc j)) hb i

front_bytes : (board bytes : List ℕ) → Bytes board → Bytes bytes → Bytes (in_front board bytes)
front_bytes board bytes h k = append-bytes board (drop (length board) bytes) h (bytes_on bytes (length board) k)

-- ---- an answer of 0 is that of a board that is read whole, and of enough bytes

zero-whole : (s : List ℕ) (q : Parsed) → read_board s ≡ check_six q → (wiring_by (read_board s)).number ≡ 0 → read_board s ≡ whole q
zero-whole s q e z = go (read_board s) refl (board_ends s) z
  where
    go : (r : Progress) → read_board s ≡ r → Ended r → (wiring_by r).number ≡ 0 → read_board s ≡ whole q
    go (going at last p) f d z = absurd d
    go (refused n w) f d z = absurd (omega (arith, d, z))
    go (whole p) f d z = f ∙ ap whole (sym (six_same q p (sym e ∙ f)))

pub record Passed (bytes : List ℕ) (needed : ℕ) (d : Wiring × List ℕ) : Type 0 where
  pub enough : needed ≤ length bytes
  pub zero : d.0.number ≡ 0
  pub left : lent_for bytes needed d ≡ (d.0, in_front d.1 bytes)

passed : (bytes : List ℕ) (needed : ℕ) (d : Wiring × List ℕ) → (lent_for bytes needed d).0.number ≡ 0 → Passed bytes needed d
passed bytes needed d z = go (ltb (length bytes) needed) refl
  where
    go : (b : Bool) → ltb (length bytes) needed ≡ b → Passed bytes needed d
    go true e = absurd (omega (arith, sym (ap (λ (r : Wiring × List ℕ). r.0.number) (lent_short bytes needed d e)) ∙ z))
    go false e =
        let here : d.0.number ≡ 0 = sym (ap (λ (r : Wiring × List ℕ). r.0.number) (lent_answer bytes needed d e)) ∙ z in
        record { enough = ltb-false (length bytes) needed e; zero = here; left = lent_done bytes needed d e here }

-- a number as it stands in two bytes: its last 16 bits
mod-bytes : (v : ℕ) → u16_bytes v ≡ u16_bytes (v % 65536)
mod-bytes v =
    let a = v / 65536 * 256 in
    let b = v % 65536 in
    let split : v ≡ b + a * 256 = omega arith in
    let high : v / 256 ≡ b / 256 + a = ap (λ (n : ℕ). n / 256) split ∙ add-mul-div_right b a (omega arith) in
    let upper : v / 256 % 256 ≡ b / 256 % 256 =
    ap (λ (n : ℕ). n % 256) high ∙ add-mul-mod_self_right (b / 256) (v / 65536) 256 in
    let lower : v % 256 ≡ b % 256 = ap (λ (n : ℕ). n % 256) split ∙ add-mul-mod_self_right b a 256 in
    λ i. lower i ∷ upper i ∷ []

-- the wire's record alone counts
add_by : (bytes : List ℕ) (n s t x y : ℕ) → wire_bytes (wire s t) ≡ wire_bytes (wire x y) → add_of bytes n s t ≡ add_of bytes n x y
unfolding add_of added_board
add_by bytes n s t x y h = ap by h
  where
    by : List ℕ → Wiring × List ℕ
    by w =
        let b = take n bytes in
        lent_for bytes (n + 8) (on_board b (λ p. judged_anew (take (length b - 4) b ++ w ++ drop (length b - 4) b)) (read_board b))

-- ---- the last wire is the newest

wired_last : (ws : List Wire) (s t : ℕ) → wired (added ws s t) s t ≡ true
wired_last [] s t = (λ i. (eq-eqb s s refl i && eq-eqb t t refl i) || false)
wired_last (w ∷ ws) s t = go (joins s t w) (wired_last ws s t)
  where
    go : (b : Bool) → wired (added ws s t) s t ≡ true → (b || wired (added ws s t) s t) ≡ true
    go true h = refl
    go false h = h

older_last : (ws : List Wire) (s t : ℕ) → older (added ws s t) s t ≡ ws
older_last [] s t = refl
older_last (w ∷ ws) s t =
    ap (λ (b : Bool). cond b (w ∷ older (added ws s t) s t) []) (wired_last ws s t) ∙ ap (λ (l : List Wire). w ∷ l) (older_last ws s t)

-- a changed board of n bytes that is read as q stands in front
leaves : (p : Parsed) (ws : List Wire) (bytes : List ℕ) → Bytes bytes → (needed : ℕ) (d : Wiring × List ℕ) (n : ℕ) (new : List ℕ) → Bytes new
    → read_board new ≡ whole (with_wires p ws) → length new ≡ n → d ≡ judged_anew new → Passed bytes needed d → Leaves p ws (lent_for bytes needed d) n
leaves p ws bytes small needed d n new new-small r long by ok =
    let left : lent_for bytes needed d ≡ (wiring 0 0 (visiting_list ws), in_front new bytes) =
    ok.left ∙ ap (λ (f : Wiring × List ℕ). (f.0, in_front f.1 bytes)) by ∙ ap (λ (v : Progress). (wiring_by v, in_front new bytes)) r in
    subst (λ (f : Wiring × List ℕ). Leaves p ws f n) (sym left) (record {
      answer = refl;
      are_bytes = front_bytes new bytes new-small small;
      within = omega (arith, length-append new (drop (length new) bytes), long);
      reads = ap read_board (take_at new (drop (length new) bytes) n long) ∙ r;
    })

-- ---- a wire added

module _ (bytes : List ℕ) (small : Bytes bytes) (n : ℕ) (p : Parsed) (e : read_board (take n bytes) ≡ whole p) where
  abbrev board : List ℕ
  board = take n bytes

  board_small : Bytes board
  board_small = bytes_front n bytes small

  module _ (x y : ℕ) where
    -- on the board itself
    added_is : x < 65536 → y < 65536 → (added_board x y board).0.number ≡ 0 → read_board (added_to x y board) ≡ whole (with_wires p (added p.wires x y))
    added_is hx hy z = go (wire_fits (length p.nodes) (length p.wires) x y) refl
      where
        go : (b : Bool) → wire_fits (length p.nodes) (length p.wires) x y ≡ b → read_board (added_to x y board) ≡ whole (with_wires p (added p.wires x y))
        go true f =
            zero-whole (added_to x y board) (with_wires p (added p.wires x y)) (added_read board x y p e board_small f)
            (sym (ap (λ (d : Wiring × List ℕ). d.0.number) (added_whole board x y p e)) ∙ z)
        go false f = absurd (omega (arith, sym (ap (λ (r : Wiring). r.number) (added_five board x y p e board_small hx hy f)) ∙ z))

    added_here : x < 65536 → y < 65536 → (add_of bytes n x y).0.number ≡ 0 → Leaves p (added p.wires x y) (add_of bytes n x y) (n + 8)
    unfolding add_of
    added_here hx hy z =
        let ok = passed bytes (n + 8) (added_board x y board) z in
        let new = added_to x y board in
        let r = added_is hx hy ok.zero in
        let new-small : Bytes new = added_small board board_small p e x y in
        leaves p (added p.wires x y) bytes small (n + 8) (added_board x y board) (n + 8) new new-small r
        (omega (
          arith,
          read_long new new-small (with_wires p (added p.wires x y)) r,
          read_long board board_small p e,
          length-take-le n bytes (omega (arith, ok.enough)),
          length-append p.wires (wire x y ∷ []),
        ))
        (added_whole board x y p e) ok

  -- of any numbers, of which a wire record has the last 16 bits
  pub added_leaves : (s t : ℕ) → (add_of bytes n s t).0.number ≡ 0 → Leaves p (added p.wires (s % 65536) (t % 65536)) (add_of bytes n s t) (n + 8)
  added_leaves s t z =
      subst (λ (d : Wiring × List ℕ). Leaves p (added p.wires (s % 65536) (t % 65536)) d (n + 8)) (sym same)
      (added_here (s % 65536) (t % 65536) (omega arith) (omega arith) (sym (ap (λ (d : Wiring × List ℕ). d.0.number) same) ∙ z))
    where
      wire_same : wire_bytes (wire s t) ≡ wire_bytes (wire (s % 65536) (t % 65536))
      wire_same = λ i. u16_bytes 8 ++ u16_bytes 3 ++ mod-bytes s i ++ mod-bytes t i

      same : add_of bytes n s t ≡ add_of bytes n (s % 65536) (t % 65536)
      same = add_by bytes n s t (s % 65536) (t % 65536) wire_same

  -- ---- a wire pulled

  module _ (x y : ℕ) where
    pub pulled_leaves : (pull_of bytes n x y).0.number ≡ 0 → Leaves p (pulled p.wires x y) (pull_of bytes n x y) (n - 8)
    unfolding pull_of
    pulled_leaves z = go (wired p.wires x y) refl (passed bytes n (pulled_board x y board) z)
      where
        go : (b : Bool) → wired p.wires x y ≡ b → Passed bytes n (pulled_board x y board)
            → Leaves p (pulled p.wires x y) (lent_for bytes n (pulled_board x y board)) (n - 8)
        go false f ok = absurd (omega (arith, sym (ap (λ (d : Wiring × List ℕ). d.0.number) (pulled_by board x y p e false f)) ∙ ok.zero))
        go true f ok =
            let by = pulled_by board x y p e true f in
            let new = pulled_from p x y board in
            let q = with_wires p (pulled p.wires x y) in
            let r : read_board new ≡ whole q =
            zero-whole new q (pulled_read board x y p e board_small f) (sym (ap (λ (d : Wiring × List ℕ). d.0.number) by) ∙ ok.zero) in
            let new-small : Bytes new = pulled_small board board_small p e x y f in
            let wires-less : length p.wires ≡ suc (length (pulled p.wires x y)) =
            omega (
              arith,
              ap length (newest p.wires x y f),
              length-append (older p.wires x y) (wire x y ∷ newer p.wires x y),
              length-append (older p.wires x y) (newer p.wires x y),
            ) in
            leaves p (pulled p.wires x y) bytes small n (pulled_board x y board) (n - 8) new new-small r
            (omega (arith, read_long new new-small q r, read_long board board_small p e, length-take-le n bytes ok.enough, wires-less)) by ok

  -- ---- the answers, where there are bytes enough: the wire is judged by 5, and then the changed board by 6

  module _ (x y : ℕ) where
    pub added_judged : x < 65536 → y < 65536 → n + 8 ≤ length bytes
        → (add_of bytes n x y).0
        ≡ cond (wire_fits (length p.nodes) (length p.wires) x y) (wiring_by (check_six (with_wires p (added p.wires x y)))) (refusal 5 (n - 4))
    unfolding add_of
    added_judged hx hy room =
        ap (λ (d : Wiring × List ℕ). d.0) (lent_answer bytes (n + 8) (added_board x y board) (le-ltb (length bytes) (n + 8) room))
        ∙ go (wire_fits (length p.nodes) (length p.wires) x y) refl
      where
        go : (b : Bool) → wire_fits (length p.nodes) (length p.wires) x y ≡ b
            → (added_board x y board).0 ≡ cond b (wiring_by (check_six (with_wires p (added p.wires x y)))) (refusal 5 (n - 4))
        go true f = ap (λ (d : Wiring × List ℕ). d.0) (added_whole board x y p e) ∙ ap wiring_by (added_read board x y p e board_small f)
        go false f = added_five board x y p e board_small hx hy f ∙ ap (λ (m : ℕ). refusal 5 (m - 4)) (length-take-le n bytes (omega arith))

    pub pulled_judged : n ≤ length bytes
        → (pull_of bytes n x y).0 ≡ cond (wired p.wires x y) (wiring_by (check_six (with_wires p (pulled p.wires x y)))) (refusal 16 y)
    unfolding pull_of
    pulled_judged room =
        ap (λ (d : Wiring × List ℕ). d.0) (lent_answer bytes n (pulled_board x y board) (le-ltb (length bytes) n room)) ∙ go (wired p.wires x y) refl
      where
        go : (b : Bool) → wired p.wires x y ≡ b
            → (pulled_board x y board).0 ≡ cond b (wiring_by (check_six (with_wires p (pulled p.wires x y)))) (refusal 16 y)
        go true f = ap (λ (d : Wiring × List ℕ). d.0) (pulled_by board x y p e true f) ∙ ap wiring_by (pulled_read board x y p e board_small f)
        go false f = ap (λ (d : Wiring × List ℕ). d.0) (pulled_by board x y p e false f)

  -- ---- a wire added and pulled again

  module _ (x y : ℕ) (hx : x < 65536) (hy : y < 65536) (z : (add_of bytes n x y).0.number ≡ 0) where
    -- the last half of its record, and the end record
    abbrev wire_end : List ℕ
    wire_end = u16_bytes x ++ u16_bytes y ++ end_bytes

    abbrev new : List ℕ
    new = added_to x y board

    room : n + 8 ≤ length bytes
    unfolding add_of
    room = (passed bytes (n + 8) (added_board x y board) z).enough

    -- the board with the wire, as it is lent
    left : (add_of bytes n x y).1 ≡ in_front new bytes
    unfolding add_of
    left =
        ap (λ (f : Wiring × List ℕ). f.1) (passed bytes (n + 8) (added_board x y board) z).left
        ∙ ap (λ (f : Wiring × List ℕ). in_front f.1 bytes) (added_whole board x y p e)

    long : length board ≡ n
    long = length-take-le n bytes (omega (arith, room))

    least : 12 ≤ n
    least = omega (arith, read_long board board_small p e, long)

    -- old board and new one, by their parts
    head : List ℕ
    head = take (n - 4) bytes

    head_long : length head ≡ n - 4
    unfolding head
    head_long = length-take-le (n - 4) bytes (omega (arith, room))

    ends : drop (length board - 4) board ≡ end_bytes
    ends = read_ends board board_small p e

    old_parts : board ≡ head ++ end_bytes
    unfolding head
    old_parts = board_parts bytes n x y room (omega (arith, least)) ends

    new_parts : new ≡ head ++ (wire_bytes (wire x y) ++ end_bytes)
    unfolding head
    new_parts = added_parts bytes n x y room (omega (arith, least)) ends

    new_long : length new ≡ n + 8
    new_long = ap length new_parts ∙ length-append head (wire_bytes (wire x y) ++ end_bytes) ∙ omega (arith, head_long, least)

    -- the board with the wire is read
    q : Parsed
    q = with_wires p (added p.wires x y)

    reads_new : read_board new ≡ whole q
    unfolding q add_of
    reads_new = added_is x y hx hy (passed bytes (n + 8) (added_board x y board) z).zero

    -- without the wire it is the old board
    closed : pulled_from q x y new ≡ board
    unfolding q
    closed =
        let at : wire_at q (length (older (added p.wires x y) x y)) ≡ n - 4 =
        ap (λ (l : List Wire). wire_at q (length l)) (older_last p.wires x y) ∙ omega (arith, read_long board board_small p e, long) in
        let eight : length (head ++ wire_bytes (wire x y)) ≡ n - 4 + 8 = length-append head (wire_bytes (wire x y)) ∙ ap (λ (m : ℕ). m + 8) head_long in
        let front : take (n - 4) new ≡ head = ap (take (n - 4)) new_parts ∙ take_at head (wire_bytes (wire x y) ++ end_bytes) (n - 4) head_long in
        let back : drop (n - 4 + 8) new ≡ end_bytes =
        ap (drop (n - 4 + 8)) (new_parts ∙ sym (append_assoc head (wire_bytes (wire x y)) end_bytes)) ∙ drop_at (head ++ wire_bytes (wire x y)) end_bytes (n - 4 + 8) eight in
        ap (λ (m : ℕ). closed_up m new) at ∙ (λ i. front i ++ back i) ∙ sym old_parts

    pulled_back : pulled_board x y new ≡ (wiring 0 0 (visiting_list p.wires), board)
    unfolding q
    pulled_back =
        pulled_by new x y q reads_new true (wired_last p.wires x y) ∙ ap judged_anew closed ∙ ap (λ (r : Progress). (wiring_by r, board)) e

    -- what stands behind the old board then
    behind : drop (length board) (add_of bytes n x y).1 ≡ wire_end ++ drop (n + 8) bytes
    behind =
        let half = u16_bytes 8 ++ u16_bytes 3 in
        let cut : length (head ++ half) ≡ length board = length-append head half ∙ omega (arith, head_long, least, long) in
        let all : (add_of bytes n x y).1 ≡ (head ++ half) ++ (wire_end ++ drop (n + 8) bytes) =
        left ∙ (λ i. new_parts i ++ drop (new_long i) bytes)
        ∙ append_assoc head (wire_bytes (wire x y) ++ end_bytes) (drop (n + 8) bytes)
        ∙ sym (append_assoc head half (wire_end ++ drop (n + 8) bytes)) in
        ap (drop (length board)) all ∙ drop_at (head ++ half) (wire_end ++ drop (n + 8) bytes) (length board) cut

    pub returned : pull_of (add_of bytes n x y).1 (n + 8) x y ≡ (wiring 0 0 (visiting_list p.wires), board ++ wire_end ++ drop (n + 8) bytes)
    unfolding pull_of
    returned =
        let lent = (add_of bytes n x y).1 in
        let front : take (n + 8) lent ≡ new = ap (take (n + 8)) left ∙ take_at new (drop (length new) bytes) (n + 8) new_long in
        let there : n + 8 ≤ length lent = omega (arith, ap length left ∙ length-append new (drop (length new) bytes), new_long) in
        ap (λ (l : List ℕ). lent_for lent (n + 8) (pulled_board x y l)) front
        ∙ ap (lent_for lent (n + 8)) pulled_back
        ∙ lent_done lent (n + 8) (wiring 0 0 (visiting_list p.wires), board) (le-ltb (length lent) (n + 8) there) refl
        ∙ ap (λ (l : List ℕ). (wiring 0 0 (visiting_list p.wires), board ++ l)) behind
        ∙ ap (λ (l : List ℕ). (wiring 0 0 (visiting_list p.wires), l)) (sym (append_assoc board wire_end (drop (n + 8) bytes)))
