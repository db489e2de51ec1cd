-- A ring in stretches: how far a block goes before the ring's end, where it goes on, and what a stretch makes of a cell. Definitions only.
use Rattle.std.specs.Prelude.{ℕ, ◌-◌, cond, List, get_or, ltb}
use Rattle.kinds.specs.Kind.{place_index}
use Rattle.kinds.specs.Iter.{iter, from}
use Rattle.kinds.specs.Rule.{Brought, with_place}
use Rattle.kinds.specs.Cell.{Cell, with_state, values_of, cell_of, step_cell}
use Rattle.kinds.specs.declared.kind.NodeKind.{NodeKind}

-- of `left` samples, those that go before the end of a ring of n
abbrev pub stretch_of : ℕ → ℕ → ℕ → ℕ
stretch_of place n left = cond (ltb (n - place) left) (n - place) left

-- the place after a stretch that ends at `end`, which is not past n
abbrev pub wrap_of : ℕ → ℕ → ℕ
wrap_of end n = cond (ltb end n) end 0

-- a cell with another ring place
abbrev pub at_place : ℕ → Cell → Cell
at_place p c = with_state c (with_place c.state p)

-- the values after `count` samples of a block from sample `done` on, by the rule. The loops hold the ring place apart, and store it after the
-- last sample: `place` is where the stretch starts, and the place that stands in the values stays
unfoldable pub stretch_values : NodeKind → ℕ → (ℕ → Brought) → ℕ → ℕ → ℕ → List ℕ → List ℕ
stretch_values k N bs place done count ws =
    values_of (at_place (get_or ws place_index 0) (iter (from done (step_cell k N bs)) count (at_place place (cell_of N k ws))))
