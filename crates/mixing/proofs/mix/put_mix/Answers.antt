-- `mixing::mix::put_mix` meets its contract: four numbers, one after the other. Assumes nothing.
use mathlib.Core.Path.{ap, ◌∙◌}
use native.Mathlib.Omega.{arith}
use lib.Ieee.{of_bits}
use Rattle.memory.specs.Calls.{put_number}
use Rattle.boards.specs.Read.{parsed_of}
use Rattle.plate_board.specs.Plate.{dry_of}
use Rattle.mixing.proofs.mix.put_mix.Goals as goal

pub put_number-requires : goal.put_number-requires
put_number-requires c =
    record {
      fine = c.requires.fine;
      k_lt_count = omega (arith, c.requires.lt_count);
      memory_len = c.requires.memory_len;
    }

pub put_number-requires-2 : goal.put_number-requires-2
put_number-requires-2 c =
    record {
      fine = c.requires.fine;
      k_lt_count = omega (arith, c.requires.lt_count);
      memory_len = c.put_number.auto.memory ∙ c.requires.memory_len;
    }

pub put_number-requires-3 : goal.put_number-requires-3
put_number-requires-3 c =
    record {
      fine = c.requires.fine;
      k_lt_count = omega (arith, c.requires.lt_count);
      memory_len = c.put_number-2.auto.memory ∙ c.put_number.auto.memory ∙ c.requires.memory_len;
    }

pub put_number-requires-4 : goal.put_number-requires-4
put_number-requires-4 c =
    record {
      fine = c.requires.fine;
      k_lt_count = omega (arith, c.requires.lt_count);
      memory_len = c.put_number-3.auto.memory ∙ c.put_number-2.auto.memory ∙ c.put_number.auto.memory ∙ c.requires.memory_len;
    }

pub returns : goal.returns
unfolding of_bits
returns c =
    let start = c.args in
    let p = parsed_of start.board.now in
    let dry = dry_of start.mix in
    c.put_number-4.ensures
    ∙ ap (put_number p 49 dry) (c.put_number-3.ensures ∙ ap (put_number p 43 dry) (c.put_number-2.ensures ∙ ap (put_number p 47 start.mix) c.put_number.ensures))
