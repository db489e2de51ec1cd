-- Check 6 against the rules of a card: there is a node 0, the input node is a pass without wires in, and each node has as many distinct
-- sources as its type takes. Assumes nothing.
use Prim.Native.Nat.{ℕ, zero, suc, ◌+◌, ◌≤◌}
use mathlib.Core.Path.{◌≡◌, refl, sym, ap, ◌∙◌}
use mathlib.Core.List.{List, [], ◌∷◌}
use mathlib.Core.Bool.{Bool, true, false, cond, and-eq-true_iff}
use native.Mathlib.Numerals.{add-one}
use native.Mathlib.Omega.{arith}
use borrow.Author.Tests.{leb-true, le-leb, eqb-true, eqb-false, eq-eqb, ne_eqb}
use lib.ListN.{length, get_or}
use lib.Dec.{leb, eqb}
use Rattle.kinds.specs.Kind.{cell_size, fewest, most, sources_fit}
use Rattle.reading.specs.Order.{Wire, sources}
use Rattle.sources.specs.Sources.{distinct_sources}
use Rattle.boards.specs.Board.{Parsed, Progress, refused, whole}
use Rattle.boards.specs.Judge.{pass_at, input_fits, check_sources, check_six}
use Rattle.records.specs.Write.{NodeCard, Card}
use Rattle.boards.specs.Obeys.{kind_of, records_from, as_read, NodeObeys, SourcesObey, no_node}
use Rattle.boards.proofs.Run.{refused_is_not_whole}
use Rattle.boards.proofs.RoundRule.{pass_is}
use Rattle.boards.proofs.RoundObeys.{EachFrom}
use Rattle.boards.proofs.RoundSources.{once_distinct, distinct_leads, sources_counted}

pub records_length : (N at : ℕ) (ds : List NodeCard) → length (records_from N at ds) ≡ length ds
records_length N at [] = refl
records_length N at (d ∷ ds) = ap suc (records_length N (at + cell_size N (kind_of d)) ds)

-- ---- the input node

pass_at_lem : (N : ℕ) (ds : List NodeCard) (at i j : ℕ) → EachFrom NodeObeys j ds → pass_at (records_from N at ds) i ≡ eqb (get_or ds i no_node).type 1
pass_at_lem N [] at i j h = refl
pass_at_lem N (d ∷ ds) at zero j h = pass_is d h.0.least_type h.0.most_type
pass_at_lem N (d ∷ ds) at (suc i) j h = pass_at_lem N ds _ i (j + 1) h.1

-- no wire leads into node k
abbrev pub Free : ℕ → ℕ → Wire → Type 0
Free k j w = w.target ≡ k → ⊥

pub free_in : (k : ℕ) (ws : List Wire) (j : ℕ) → EachFrom (Free k) j ws → length (sources ws k) ≡ 0
free_in k [] j h = refl
free_in k (w ∷ ws) j h = rw (ne_eqb w.target k h.0) (free_in k ws (j + 1) h.1)

free_told : (k : ℕ) (ws : List Wire) (j : ℕ) → length (sources ws k) ≡ 0 → EachFrom (Free k) j ws
free_told k [] j e = tt
free_told k (w ∷ ws) j e = go (eqb w.target k) refl e (free_told k ws (j + 1))
  where
    go : (b : Bool) → eqb w.target k ≡ b → length (cond b (w.source ∷ sources ws k) (sources ws k)) ≡ 0
        → (length (sources ws k) ≡ 0 → EachFrom (Free k) (j + 1) ws) → Free k j w × EachFrom (Free k) (j + 1) ws
    go true q e h = absurd (omega arith)
    go false q e h = (eqb-false w.target k q, h e)

-- ---- the sources of each node

module _ (ws : List Wire) (i : ℕ) (d : NodeCard) where
  abbrev count : ℕ
  count = length (distinct_sources ws i)

  pub sources_fit_lem : SourcesObey ws i d → sources_fit (kind_of d) count ≡ true
  sources_fit_lem h =
      let e = sources_counted ws i h.sources h.once h.same in
      let lo : fewest (kind_of d) ≤ count = omega (arith, h.least_sources) in
      let hi : count ≤ most (kind_of d) = omega (arith, h.most_sources) in
      (and-eq-true_iff (leb (fewest (kind_of d)) count) (leb count (most (kind_of d)))).1 (le-leb _ _ lo, le-leb _ _ hi)

  sources_told : sources_fit (kind_of d) count ≡ true → SourcesObey ws i d
  sources_told e =
      let h = (and-eq-true_iff (leb (fewest (kind_of d)) count) (leb count (most (kind_of d)))).0 e in
      record {
        sources = distinct_sources ws i;
        once = once_distinct (sources ws i);
        same = distinct_leads ws i;
        least_sources = leb-true _ _ h.0;
        most_sources = leb-true _ _ h.1;
      }

module _ (p : Parsed) (N : ℕ) where
  each_in : (ds : List NodeCard) (at i : ℕ) → EachFrom (SourcesObey p.wires) i ds → check_sources p i (records_from N at ds) ≡ whole p
  unfolding check_sources
  each_in [] at i h = refl
  each_in (d ∷ ds) at i h = rw (sources_fit_lem p.wires i d h.0, ← add-one i) (each_in ds _ (i + 1) h.1)

  each_told : (q : Parsed) (ds : List NodeCard) (at i : ℕ) → check_sources p i (records_from N at ds) ≡ whole q
      → EachFrom (SourcesObey p.wires) i ds × (p ≡ q)
  unfolding check_sources
  each_told q [] at i e = (tt, cc)
  each_told q (d ∷ ds) at i e =
      go (sources_fit (kind_of d) (length (distinct_sources p.wires i))) refl (rw (← add-one i) at e) (each_told q ds (at + cell_size N (kind_of d)) (i + 1))
    where
      rest : Progress
      rest = check_sources p (i + 1) (records_from N (at + cell_size N (kind_of d)) ds)

      go : (b : Bool) → sources_fit (kind_of d) (length (distinct_sources p.wires i)) ≡ b → cond b rest (refused 6 i) ≡ whole q
          → (rest ≡ whole q → EachFrom (SourcesObey p.wires) (i + 1) ds × (p ≡ q))
          → EachFrom (SourcesObey p.wires) i (d ∷ ds) × (p ≡ q)
      go true f e h = let more = h e in ((sources_told p.wires i d f, more.0), more.1)
      go false f e h = refused_is_not_whole 6 i q e

-- ---- the three together

-- what check 6 asks of a card
pub record Six (c : Card) : Type 0 where
  pub some_node : 1 ≤ length c.nodes
  pub input_pass : (get_or c.nodes c.input no_node).type ≡ 1
  pub input_free : EachFrom (Free c.input) 0 c.wires
  pub sources : EachFrom (SourcesObey c.wires) 0 c.nodes

module _ (c : Card) (known : EachFrom NodeObeys 0 c.nodes) where
  count_is : length (as_read c).nodes ≡ length c.nodes
  count_is = records_length c.size 0 c.nodes

  pass_is_at : pass_at (as_read c).nodes c.input ≡ eqb (get_or c.nodes c.input no_node).type 1
  pass_is_at = pass_at_lem c.size c.nodes 0 c.input 0 known

  abbrev empty : Bool
  empty = eqb (length (sources c.wires c.input)) 0

  pub six_in : Six c → check_six (as_read c) ≡ whole (as_read c)
  six_in h =
      let p = as_read c in
      let some : eqb (length p.nodes) 0 ≡ false = ne_eqb (length p.nodes) 0 (λ e. omega (arith, count_is, h.some_node)) in
      let input : input_fits p ≡ true =
      (and-eq-true_iff (pass_at p.nodes c.input) empty).1
      (pass_is_at ∙ eq-eqb _ _ h.input_pass, eq-eqb _ _ (free_in c.input c.wires 0 h.input_free)) in
      (λ i. cond (some i) (refused 6 0) (cond (input i) (check_sources p 0 p.nodes) (refused 6 c.input))) ∙ each_in p c.size c.nodes 0 0 h.sources

  pub six_told : (q : Parsed) → check_six (as_read c) ≡ whole q → Six c × (as_read c ≡ q)
  six_told q = go (eqb (length (as_read c).nodes) 0) refl (input_fits (as_read c)) refl
    where
      p : Parsed
      p = as_read c

      go : (b : Bool) → eqb (length p.nodes) 0 ≡ b → (f : Bool) → input_fits p ≡ f
          → cond b (refused 6 0) (cond f (check_sources p 0 p.nodes) (refused 6 c.input)) ≡ whole q → Six c × (p ≡ q)
      go true n f i e = refused_is_not_whole 6 0 q e
      go false n false i e = refused_is_not_whole 6 c.input q e
      go false n true i e =
          let both = (and-eq-true_iff (pass_at p.nodes c.input) empty).0 i in
          let rest = each_told p c.size q c.nodes 0 0 e in (
            record {
              some_node = omega (arith, count_is, eqb-false (length p.nodes) 0 n);
              input_pass = eqb-true _ _ (sym pass_is_at ∙ both.0);
              input_free = free_told c.input c.wires 0 (eqb-true _ _ both.1);
              sources = rest.0;
            },
            rest.1,
          )
