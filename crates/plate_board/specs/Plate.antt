-- The plate (document 01, "Plate"): the board that plate.rs makes, node by node and wire by wire, and what the plate writer answers and
-- leaves. Definitions only.
use Rattle.std.specs.Prelude.{ℕ, cond, List, [], ◌∷◌, ◌++◌, length, eqb, Float}
use Rattle.std.specs.Float.{binary32}
use Rattle.std.specs.Float.Ieee.{to_bits, sub}
use Rattle.leaves.specs.Exponential.{b_seven_fifths, b_one_fifth}
use Rattle.values.specs.Floors.{f1, finite_f}
use Rattle.reading.specs.Order.{Wire, wire}
use Rattle.records.specs.Answer.{answer}
use Rattle.boards.specs.Board.{size_fits}
use Rattle.records.specs.Write.{NodeCard, Card, write_board}
use Rattle.records.specs.declared.answer.Answer.{Answer}

-- ---- nodes, by type; a float by its bits

abbrev pub node : ℕ → ℕ → ℕ → NodeCard
node t n f = record { type = t; n = n; f = f }

abbrev pub plain : ℕ → NodeCard
plain t = node t 0 0

-- plate.rs's own words; `mul` and `add` by their number, `all_pass` by its line and gain
abbrev pub pass : NodeCard
pass = plain 1

abbrev pub sum : NodeCard
sum = plain 2

abbrev pub destination : NodeCard
destination = plain 3

abbrev pub balance : NodeCard
balance = plain 4

abbrev pub mul : ℕ → NodeCard
mul f = node 5 0 f

abbrev pub add : ℕ → NodeCard
add f = node 6 0 f

abbrev pub delay_n : ℕ → NodeCard
delay_n n = node 7 n 0

abbrev pub all_pass : ℕ → ℕ → NodeCard
all_pass n g = node 8 n g

abbrev pub one_pole : ℕ → NodeCard
one_pole b = node 9 0 b

abbrev pub sin_osc : ℕ → NodeCard
sin_osc f = node 10 0 f

-- ---- floats, as bits

abbrev pub tenth : ℕ
tenth = 0x3dcc_cccd

abbrev pub three_tenths : ℕ
three_tenths = 0x3e99_999a

abbrev pub half : ℕ
half = 0x3f00_0000

abbrev pub five_eighths : ℕ
five_eighths = 0x3f20_0000

abbrev pub seven_tenths : ℕ
seven_tenths = 0x3f33_3333

abbrev pub three_quarters : ℕ
three_quarters = 0x3f40_0000

abbrev pub minus_one : ℕ
minus_one = 0xbf80_0000

-- 5.5 and 29.5, the milliseconds by which the modulated all_passes swing, and about which
abbrev pub swing : ℕ
swing = 0x40b0_0000

abbrev pub middle : ℕ
middle = 0x41ec_0000

-- ---- the 51 nodes in order of creation; 0 and 1 are those of every context

unfoldable pub plate_nodes : ℕ → ℕ → List NodeCard
plate_nodes mix dry =
    destination ∷ pass  -- 0 destination, 1 the context's input, which is not used
    ∷ pass  -- 2 input
    ∷ one_pole b_seven_fifths  -- 3 wet1, cut off at 0.7
    ∷ delay_n 2205  -- 4 wet2, 50 ms
    ∷ all_pass 210 three_quarters  -- 5 wet3, 4.771 ms
    ∷ all_pass 158 three_quarters  -- 6 wet4, 3.595 ms
    ∷ all_pass 560 five_eighths  -- 7 wet5, 12.72 ms
    ∷ all_pass 410 five_eighths  -- 8 wet6, 9.307 ms
    ∷ add 0  -- 9 wet7, the feedback comes in here
    ∷ all_pass 4410 seven_tenths  -- 10 wet8, 100 ms, modulated
    ∷ sin_osc tenth ∷ mul swing ∷ add middle  -- 11 mod1, 12 mod2, 13 mod3
    ∷ delay_n 394 ∷ delay_n 2800 ∷ delay_n 1204  -- 14 aa, 15 ab, 16 ac
    ∷ delay_n 2000 ∷ one_pole b_one_fifth ∷ all_pass 334 half  -- 17, 18, 19 ba, cut off at 0.1, 7.596 ms
    ∷ all_pass 1577 half  -- 20 bb, 35.78 ms
    ∷ all_pass 4410 half  -- 21 bc, 100 ms, modulated
    ∷ delay_n 179 ∷ delay_n 2679  -- 22 ca, 23 cb
    ∷ delay_n 3500 ∷ mul three_tenths  -- 24 cc1, 25 cc2
    ∷ all_pass 1323 seven_tenths ∷ delay_n 522  -- 26 da1, 30 ms, 27 da2
    ∷ delay_n 2400 ∷ delay_n 2400  -- 28 db, 29 dc
    ∷ one_pole b_one_fifth ∷ all_pass 273 seven_tenths  -- 30 ea1, cut off at 0.1, 31 ea2, 6.2 ms
    ∷ all_pass 1539 seven_tenths  -- 32 eb, 34.92 ms
    ∷ all_pass 899 seven_tenths ∷ delay_n 1578  -- 33 fa1, 20.4 ms, 34 fa2
    ∷ delay_n 2378  -- 35 fb
    ∷ delay_n 2500 ∷ mul three_tenths  -- 36 fb1, 37 fb2
    ∷ sum ∷ mul minus_one  -- 38 left_subtract, 39 left_subtract2
    ∷ sum ∷ mul mix  -- 40 left, 41 leftwet
    ∷ sum ∷ mul dry  -- 42 leftmix, 43 leftdrymix
    ∷ sum ∷ mul minus_one  -- 44 right_subtract, 45 right_subtract2
    ∷ sum ∷ mul mix  -- 46 right, 47 rightwet
    ∷ sum ∷ mul dry  -- 48 rightmix, 49 rightdry
    ∷ balance  -- 50 balance
    ∷ []

-- ---- the 68 wires in order of connection

-- a wire from each node of a list to the next
abbrev pub chain : List ℕ → List Wire
chain [] = []
chain (s ∷ []) = []
chain (s ∷ t ∷ ns) = wire s t ∷ chain (t ∷ ns)

unfoldable pub plate_wires : List Wire
plate_wires =
    chain (2 ∷ 3 ∷ 4 ∷ 5 ∷ 6 ∷ 7 ∷ 8 ∷ 9 ∷ 10 ∷ [])  -- input, wet1 .. wet8
    ++ chain (11 ∷ 12 ∷ 13 ∷ 10 ∷ [])  -- mod1, mod2, mod3, wet8
    ++ chain (10 ∷ 14 ∷ 15 ∷ 16 ∷ [])  -- wet8, aa, ab, ac
    ++ chain (17 ∷ 18 ∷ 19 ∷ [])  -- ba
    ++ wire 16 17  -- ac to ba
    ∷ chain (19 ∷ 20 ∷ 21 ∷ [])  -- ba, bb, bc
    ++ chain (11 ∷ 12 ∷ 13 ∷ 21 ∷ [])  -- mod1, mod2, mod3, bc: the first two repeat
    ++ chain (21 ∷ 22 ∷ 23 ∷ 24 ∷ 25 ∷ [])  -- bc, ca, cb, cc1, cc2
    ++ chain (25 ∷ 26 ∷ 27 ∷ 28 ∷ 29 ∷ [])  -- cc2, da1, da2, db, dc
    ++ chain (29 ∷ 30 ∷ 31 ∷ 32 ∷ [])  -- dc, ea1, ea2, eb
    ++ chain (32 ∷ 33 ∷ 34 ∷ 35 ∷ [])  -- eb, fa1, fa2, fb
    ++ chain (35 ∷ 36 ∷ 37 ∷ 9 ∷ [])  -- fb, fb1, fb2, back to wet7
    ++ wire 20 38 ∷ wire 28 38 ∷ wire 31 38 ∷ wire 34 38  -- bb, db, ea2, fa2 to left_subtract
    ∷ wire 38 39  -- left_subtract to left_subtract2
    ∷ wire 14 40 ∷ wire 15 40 ∷ wire 23 40 ∷ wire 39 40  -- aa, ab, cb, left_subtract2 to left
    ∷ chain (2 ∷ 43 ∷ 42 ∷ [])  -- input, leftdrymix, leftmix
    ++ chain (40 ∷ 41 ∷ 42 ∷ [])  -- left, leftwet, leftmix
    ++ wire 32 44 ∷ wire 15 44 ∷ wire 19 44 ∷ wire 22 44  -- eb, ab, ba, ca to right_subtract
    ∷ wire 44 45  -- right_subtract to right_subtract2
    ∷ wire 27 46 ∷ wire 28 46 ∷ wire 35 46 ∷ wire 45 46  -- da2, db, fb, right_subtract2 to right
    ∷ chain (2 ∷ 49 ∷ 48 ∷ [])  -- input, rightdry, rightmix
    ++ chain (46 ∷ 47 ∷ 48 ∷ [])  -- right, rightwet, rightmix
    ++ wire 42 50 ∷ wire 48 50  -- leftmix, rightmix to balance
    ∷ wire 50 0  -- balance to destination
    ∷ []

-- block size N, bits of mix, bits of 1 − mix
abbrev pub plate_card : ℕ → ℕ → ℕ → Card
plate_card N mix dry = record { size = N; input = 2; nodes = plate_nodes mix dry; wires = plate_wires }

-- ---- the plate writer

-- 1 − mix, one rounding
abbrev pub dry_of : Float → Float
dry_of mix = sub binary32 f1 mix

abbrev pub plate_bytes : ℕ → Float → List ℕ
plate_bytes N mix = write_board (plate_card N (to_bits binary32 mix) (to_bits binary32 (dry_of mix)))

-- 3, 12 and 7, in this order
abbrev pub check_write : ℕ → Float → List ℕ → Answer
check_write N mix b =
    cond (size_fits N)
    (cond (finite_f mix) (cond (eqb (length b) 1270) (answer 0 0) (answer 7 1270)) (answer 12 41))
    (answer 3 0)

-- the answer, and the lent bytes afterwards: a refusal leaves them as found
unfoldable pub write_of : ℕ → Float → List ℕ → Answer × List ℕ
write_of N mix b = (check_write N mix b, cond (eqb (check_write N mix b).number 0) (plate_bytes N mix) b)
