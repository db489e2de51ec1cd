-- Written numbers against the numbers that are read: in a list of bytes, what stands at an offset is what stands first in the part from
-- there on, and its first two or four bytes are those written for the number that they stand for. Assumes nothing.
use Prim.Native.Nat.{ℕ, zero, suc, ◌+◌, ◌*◌, ◌/◌, ◌%◌, ◌≤◌, ◌<◌}
use mathlib.Core.Path.{◌≡◌, sym, ap, ◌∙◌}
use mathlib.Core.List.{List, [], ◌∷◌, ◌++◌}
use native.Mathlib.Omega.{arith}
use lib.ListN.{length, get_or, take, drop}
use lib.Seq.{get_or-drop}
use Rattle.values.specs.Bytes.{u16_at, u32_at, u16_bytes, u32_bytes}
use Rattle.values.specs.Words.{word, word-digits, Bytes}
use Rattle.reading.specs.Order.{Wire}
use Rattle.records.specs.Write.{NodeCard, Card, head_bytes, node_bytes, wire_bytes, end_bytes, nodes_bytes, wires_bytes, write_board}

-- ---- the part from an offset on

module _ (s : List ℕ) (at : ℕ) where
  byte_on : (k j : ℕ) → at + k ≡ j → get_or s j 0 ≡ get_or (drop at s) k 0
  byte_on k j e = ap (λ (i : ℕ). get_or s i 0) (sym e) ∙ sym (get_or-drop at s k 0)

  pub u16_on : (k j : ℕ) → at + k ≡ j → u16_at s j ≡ u16_at (drop at s) k
  u16_on k j e = λ i. byte_on k j e i + byte_on (k + 1) (j + 1) (omega arith) i * 256

  pub u32_on : (k j : ℕ) → at + k ≡ j → u32_at s j ≡ u32_at (drop at s) k
  u32_on k j e =
      λ i. word (byte_on k j e i) (byte_on (k + 1) (j + 1) (omega arith) i) (byte_on (k + 2) (j + 2) (omega arith) i)
      (byte_on (k + 3) (j + 3) (omega arith) i)

  pub bytes_on : Bytes s → Bytes (drop at s)
  bytes_on h k = rw get_or-drop (h (at + k))

-- the first bytes
pub bytes_front : (n : ℕ) (m : List ℕ) → Bytes m → (i : ℕ) → get_or (take n m) i 0 < 256
bytes_front zero m h i = omega arith
bytes_front (suc n) [] h i = h i
bytes_front (suc n) (x ∷ xs) h zero = h 0
bytes_front (suc n) (x ∷ xs) h (suc i) = bytes_front n xs (λ j. h (suc j)) i

-- ---- a number from its bytes, and back

pub u16_back : (v : ℕ) → v < 65536 → v % 256 + v / 256 % 256 * 256 ≡ v
u16_back v h = omega arith

pub u16_small : (b : List ℕ) (k : ℕ) → Bytes b → u16_at b k < 65536
u16_small b k h = omega (arith, h k, h (k + 1))

pub u32_small : (b : List ℕ) (k : ℕ) → Bytes b → u32_at b k < 4294967296
u32_small b k h = omega (arith, h k, h (k + 1), h (k + 2), h (k + 3))

pub u16_split : (b : List ℕ) (v : ℕ) → Bytes b → 2 ≤ length b → u16_at b 0 ≡ v → b ≡ u16_bytes v ++ drop 2 b
u16_split [] v h l e = absurd (omega arith)
u16_split (x ∷ []) v h l e = absurd (omega arith)
u16_split (x ∷ y ∷ b) v h l e =
    let hx : x < 256 = h 0 in
    let hy : y < 256 = h 1 in
    let ex : x ≡ v % 256 = omega arith in
    let qy : v / 256 ≡ y = omega arith in
    let ey : y ≡ v / 256 % 256 = rw qy (omega arith) in
    λ i. ex i ∷ ey i ∷ b

pub u32_split : (b : List ℕ) (v : ℕ) → Bytes b → 4 ≤ length b → u32_at b 0 ≡ v → b ≡ u32_bytes v ++ drop 4 b
u32_split [] v h l e = absurd (omega arith)
u32_split (x ∷ []) v h l e = absurd (omega arith)
u32_split (x ∷ y ∷ []) v h l e = absurd (omega arith)
u32_split (x ∷ y ∷ z ∷ []) v h l e = absurd (omega arith)
u32_split (x ∷ y ∷ z ∷ w ∷ b) v h l e =
    let digits = word-digits x y z w v (h 0) (h 1) (h 2) e in
    let last : w ≡ v / 16777216 % 256 = omega (arith, digits.3, h 3) in
    λ i. digits.0 i ∷ digits.1 i ∷ digits.2 i ∷ last i ∷ b

-- ---- what is written is bytes

abbrev AllBytes : List ℕ → Type 0
AllBytes [] = Unit {0}
AllBytes (x ∷ l) = (x < 256) × AllBytes l

all_append : (a b : List ℕ) → AllBytes a → AllBytes b → AllBytes (a ++ b)
all_append [] b h k = k
all_append (x ∷ a) b h k = (h.0, all_append a b h.1 k)

bytes_of : (l : List ℕ) → AllBytes l → Bytes l
bytes_of [] h i = omega arith
bytes_of (x ∷ l) h zero = h.0
bytes_of (x ∷ l) h (suc i) = bytes_of l h.1 i

nodes_bytes_lem : (ds : List NodeCard) → AllBytes (nodes_bytes ds)
nodes_bytes_lem [] = tt
nodes_bytes_lem (d ∷ ds) = all_append (node_bytes d) (nodes_bytes ds) (omega arith) (nodes_bytes_lem ds)

wires_bytes_lem : (ws : List Wire) → AllBytes (wires_bytes ws)
wires_bytes_lem [] = tt
wires_bytes_lem (w ∷ ws) = all_append (wire_bytes w) (wires_bytes ws) (omega arith) (wires_bytes_lem ws)

pub board_bytes : (c : Card) → Bytes (write_board c)
unfolding write_board
board_bytes c =
    let head = head_bytes c.size c.input in
    let nodes = nodes_bytes c.nodes in
    let wires = wires_bytes c.wires in
    bytes_of (head ++ nodes ++ wires ++ end_bytes)
    (all_append (head ++ nodes ++ wires) end_bytes
    (all_append (head ++ nodes) wires (all_append head nodes (omega arith) (nodes_bytes_lem c.nodes)) (wires_bytes_lem c.wires)) (omega arith))
