-- Boards that antt judges by computing the definitions: document 01's printed board, cut, with a byte more, and changed. Assumes nothing.
use Rattle.std.specs.Prelude.{ℕ, ◌≡◌, refl, List, [], ◌∷◌, ◌++◌, take, set}
use Rattle.std.specs.Float.Ieee.{of_bits}
use Rattle.kinds.specs.Kind.{rule_of}
use Rattle.records.specs.Answer.{answer}
use Rattle.records.specs.Record.{found_of, found_at}
use Rattle.sources.specs.Sources.{distinct}
use Rattle.boards.specs.Board.{take_found, step_of, run, read_records}
use Rattle.boards.specs.Judge.{check_sources, read_board, judge_of}

-- N 2, input 1; destination, pass, add 0, delay 1, mul 0.5; wires 1→2, 2→3, 3→4, 4→2, 3→0
abbrev pub printed : List ℕ
printed =
    8 ∷ 0 ∷ 1 ∷ 0 ∷ 2 ∷ 0 ∷ 1 ∷ 0
    ∷ 14 ∷ 0 ∷ 2 ∷ 0 ∷ 3 ∷ 0 ∷ 0 ∷ 0 ∷ 0 ∷ 0 ∷ 0 ∷ 0 ∷ 0 ∷ 0
    ∷ 14 ∷ 0 ∷ 2 ∷ 0 ∷ 1 ∷ 0 ∷ 0 ∷ 0 ∷ 0 ∷ 0 ∷ 0 ∷ 0 ∷ 0 ∷ 0
    ∷ 14 ∷ 0 ∷ 2 ∷ 0 ∷ 6 ∷ 0 ∷ 0 ∷ 0 ∷ 0 ∷ 0 ∷ 0 ∷ 0 ∷ 0 ∷ 0
    ∷ 14 ∷ 0 ∷ 2 ∷ 0 ∷ 7 ∷ 0 ∷ 1 ∷ 0 ∷ 0 ∷ 0 ∷ 0 ∷ 0 ∷ 0 ∷ 0
    ∷ 14 ∷ 0 ∷ 2 ∷ 0 ∷ 5 ∷ 0 ∷ 0 ∷ 0 ∷ 0 ∷ 0 ∷ 0 ∷ 0 ∷ 0 ∷ 63
    ∷ 8 ∷ 0 ∷ 3 ∷ 0 ∷ 1 ∷ 0 ∷ 2 ∷ 0
    ∷ 8 ∷ 0 ∷ 3 ∷ 0 ∷ 2 ∷ 0 ∷ 3 ∷ 0
    ∷ 8 ∷ 0 ∷ 3 ∷ 0 ∷ 3 ∷ 0 ∷ 4 ∷ 0
    ∷ 8 ∷ 0 ∷ 3 ∷ 0 ∷ 4 ∷ 0 ∷ 2 ∷ 0
    ∷ 8 ∷ 0 ∷ 3 ∷ 0 ∷ 3 ∷ 0 ∷ 0 ∷ 0
    ∷ 4 ∷ 0 ∷ 4 ∷ 0 ∷ []

pub printed_judged : judge_of printed ≡ answer 0 112
unfolding judge_of read_board read_records run step_of take_found found_at found_of rule_of of_bits check_sources distinct
printed_judged = refl

-- the last byte is missing: the end record, at offset 118, is cut
pub printed-cut : judge_of (take 121 printed) ≡ answer 1 118
unfolding judge_of read_board read_records run step_of take_found found_at found_of rule_of of_bits check_sources distinct
printed-cut = refl

-- a byte after the end
pub printed-more : judge_of (printed ++ (0 ∷ [])) ≡ answer 1 122
unfolding judge_of read_board read_records run step_of take_found found_at found_of rule_of of_bits check_sources distinct
printed-more = refl

-- N 129
pub printed_129 : judge_of (set printed 4 129) ≡ answer 3 0
unfolding judge_of read_board read_records run step_of take_found found_at found_of rule_of of_bits check_sources distinct
printed_129 = refl

-- the first wire, at offset 78, from node 2 to itself
pub printed_self : judge_of (set printed 82 2) ≡ answer 5 78
unfolding judge_of read_board read_records run step_of take_found found_at found_of rule_of of_bits check_sources distinct
printed_self = refl

-- a record that is cut and of no kind is cut; one of no kind and of no kind's length is of no kind
pub cut_before_kind : judge_of (take 121 (set printed 120 9)) ≡ answer 1 118
unfolding judge_of read_board read_records run step_of take_found found_at found_of rule_of of_bits check_sources distinct
cut_before_kind = refl

pub kind_before_length : judge_of (set (set printed 0 9) 2 9) ≡ answer 2 0
unfolding judge_of read_board read_records run step_of take_found found_at found_of rule_of of_bits check_sources distinct
kind_before_length = refl

-- node 0, at offset 8, a pass
pub first_a_pass : judge_of (set printed 12 1) ≡ answer 4 8
unfolding judge_of read_board read_records run step_of take_found found_at found_of rule_of of_bits check_sources distinct
first_a_pass = refl

-- the input node is no pass, and is missing
pub input_an_add : judge_of (set printed 6 2) ≡ answer 6 2
unfolding judge_of read_board read_records run step_of take_found found_at found_of rule_of of_bits check_sources distinct
input_an_add = refl

pub input_missing : judge_of (set printed 6 5) ≡ answer 6 5
unfolding judge_of read_board read_records run step_of take_found found_at found_of rule_of of_bits check_sources distinct
input_missing = refl
