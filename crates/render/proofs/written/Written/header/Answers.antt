-- `render::written::Written::header` meets its contract: the room is cut to the header's length. Assumes nothing.
use mathlib.Core.Path.{sym, ap, ◌∙◌}
use native.Mathlib.Omega.{arith}
use lib.ListN.{length}
use lib.Seq.{length-take-le}
use Rattle.wav.specs.Header.{header_of, word_header_of}
use Rattle.render.proofs.written.Written.header.Goals as goal

pub copy_from_slice-requires : goal.copy_from_slice-requires
unfolding header_of
copy_from_slice-requires c = length-take-le 58 c.args.room.now (omega (arith, c.requires.room)) ∙ sym (ap length c.header.ensures)

pub slice_bounds-head-end-in-Words : goal.slice_bounds-head-end-in-Words
slice_bounds-head-end-in-Words c = sym (length-take-le 44 c.args.room.now (omega (arith, c.requires.room)))

pub copy_from_slice-requires-in-Words : goal.copy_from_slice-requires-in-Words
unfolding word_header_of
copy_from_slice-requires-in-Words c = length-take-le 44 c.args.room.now (omega (arith, c.requires.room)) ∙ sym (ap length c.word_header.ensures)
