-- One source more in the table of sources, as the code puts it there. Definitions only.
use Rattle.std.specs.Prelude.{ℕ, zero, suc, ◌+◌, ◌*◌, ◌≡◌, List, Bool, false, cond, ◌||◌, get_or, set, ltb, eqb}
use Rattle.sources.specs.declared.sources.Sources.{Sources}

-- x is one of the n numbers from a start on
unfoldable pub among : List ℕ → ℕ → ℕ → ℕ → Bool
among l start zero x = false
among l start (suc n) x = among l start n x || eqb x (get_or l (start + n) 0)

-- nothing changes: there are more than eight already, or x is there
abbrev pub settled : List ℕ → ℕ → ℕ → ℕ → Bool
settled l start n x = ltb 8 n || among l start n x

-- the count with x in it, and the list, which has room for eight
abbrev pub count_with : List ℕ → ℕ → ℕ → ℕ → ℕ
count_with l start n x = cond (settled l start n x) n (n + 1)

abbrev pub list_with : List ℕ → ℕ → ℕ → ℕ → List ℕ
list_with l start n x = cond (settled l start n x) l (cond (eqb n 8) l (set l (start + n) x))

-- the second source, once x comes after n others
abbrev pub second_with : ℕ → ℕ → ℕ → ℕ
second_with n old x = cond (eqb n 1) x old

-- the table with one wire more, from x to node t, which n others lead into
pub record Added (t n x : ℕ) (old new : Sources) : Type 0 where
  pub counts_is : new.counts ≡ set old.counts t (count_with old.lists (8 * t) (get_or old.counts t 0) x)
  pub lists_is : new.lists ≡ list_with old.lists (8 * t) (get_or old.counts t 0) x
  pub seconds_is : new.seconds ≡ set old.seconds t (second_with n (get_or old.seconds t 0) x)
