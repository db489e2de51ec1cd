-- A number of a part of an array, from k on. Assumes nothing.
use Prim.Native.Nat.{ℕ, ◌+◌, ◌<◌}
use mathlib.Core.Path.{◌≡◌, ◌∙◌}
use mathlib.Core.List.{List}
use lib.ListN.{get_or, take, drop}
use lib.Seq.{get_or-take, get_or-drop}

pub part_at : (l : List ℕ) (k n j : ℕ) → j < n → get_or (take n (drop k l)) j 0 ≡ get_or l (k + j) 0
part_at l k n j h = get_or-take n (drop k l) j 0 h ∙ get_or-drop k l j 0
