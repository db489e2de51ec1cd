-- The mix message (document 01, "Plate" and "Answers by number"): it sets 41, 47 to mix, then 43, 49 to 1 − mix, and all four must be muls.
-- Its answer, and every byte of the memory afterwards. Definitions only.
use Rattle.std.specs.Prelude.{ℕ, ◌+◌, ◌≡◌, Bool, cond, ◌&&◌, List, length, get_or, ltb, eqb, Float}
use Rattle.std.specs.Float.{binary32}
use Rattle.std.specs.Float.Ieee.{to_bits}
use Rattle.values.specs.Floors.{finite_f}
use Rattle.values.specs.Words.{words}
use Rattle.kinds.specs.Kind.{type_of, number_index}
use Rattle.kinds.specs.declared.kind.NodeKind.{NodeKind}
use Rattle.records.specs.Answer.{answer}
use Rattle.boards.specs.Board.{Parsed}
use Rattle.boards.specs.Judge.{read_board}
use Rattle.memory.specs.Memory.{passed, node_at, kind_at}
use Rattle.memory.specs.Calls.{and_then, check_memory, change_by, put_number, message_of}
use Rattle.records.specs.declared.answer.Answer.{Answer}
use Rattle.plate_board.specs.Plate.{dry_of}

-- ---- the checks

abbrev pub is_mul : NodeKind → Bool
is_mul k = eqb (type_of k) 5

-- 11: node k is there and is a mul
abbrev pub check_mul : Parsed → ℕ → Answer
check_mul p k = cond (ltb k (length p.nodes) && is_mul (kind_at p k)) passed (answer 11 k)

-- 12: mix is finite
abbrev pub check_finite : Float → Answer
check_finite mix = cond (finite_f mix) passed (answer 12 41)

-- the first of 41, 47, 43, 49 that is no mul; then mix itself
abbrev pub check_mix : Parsed → Float → Answer
check_mix p mix = and_then (check_mul p 41) (and_then (check_mul p 47) (and_then (check_mul p 43) (and_then (check_mul p 49) (check_finite mix))))

-- the checks of the mix message behind 6
abbrev pub check_mixed : Parsed → List ℕ → Float → Answer
check_mixed p m mix = check_memory p m (check_mix p mix)

-- ---- the call

-- 41, 47 to mix, then 43, 49 to 1 − mix
abbrev pub set_mix : Parsed → Float → List ℕ → List ℕ
set_mix p mix ws = put_number p 49 (dry_of mix) (put_number p 43 (dry_of mix) (put_number p 47 mix (put_number p 41 mix ws)))

unfoldable pub mix_of : List ℕ → List ℕ → Float → Answer × List ℕ
mix_of board m mix = change_by m (λ p. check_mixed p m mix) (λ p. set_mix p mix (words m)) (read_board board)

-- ---- what is shown of it: an accepted mix is its four number messages, one after the other

-- the memory after a number message
abbrev pub after : List ℕ → List ℕ → ℕ → Float → List ℕ
after board m k x = (message_of board m k x).1

-- each of the four is accepted, and the last leaves what the mix message leaves
pub record IsFour (board m : List ℕ) (mix : Float) : Type 0 where
  pub first : (message_of board m 41 mix).0 ≡ passed
  pub second : (message_of board (after board m 41 mix) 47 mix).0 ≡ passed
  pub third : (message_of board (after board (after board m 41 mix) 47 mix) 43 (dry_of mix)).0 ≡ passed
  pub fourth : message_of board (after board (after board (after board m 41 mix) 47 mix) 43 (dry_of mix)) 49 (dry_of mix) ≡ mix_of board m mix

-- and the four cells hold mix and 1 − mix
pub record HoldsMix (p : Parsed) (mix : Float) (ws : List ℕ) : Type 0 where
  pub left_wet : get_or ws ((node_at p 41).cell + number_index) 0 ≡ to_bits binary32 mix
  pub right_wet : get_or ws ((node_at p 47).cell + number_index) 0 ≡ to_bits binary32 mix
  pub left_dry : get_or ws ((node_at p 43).cell + number_index) 0 ≡ to_bits binary32 (dry_of mix)
  pub right_dry : get_or ws ((node_at p 49).cell + number_index) 0 ≡ to_bits binary32 (dry_of mix)
