-- Where the nodes' samples start, node by node.
--     mapped_at                   a node's start, by its number
--     starts_none, starts_more    an array filled from the front
-- Assumes nothing.
use Prim.Native.Nat.{ℕ, zero, suc, ◌+◌, ◌-◌, ◌*◌, ◌≤◌, ◌<◌}
use mathlib.Core.Path.{◌≡◌, refl, sym, ap, ◌∙◌}
use mathlib.Core.List.{List, [], ◌∷◌, ◌++◌, map, map-append}
use native.Mathlib.Numerals.{add-one}
use native.Mathlib.Omega.{arith}
use lib.ListN.{length, get_or, set, take, length-set}
use lib.Seq.{take-suc, take-suc-set}
use Rattle.boards.specs.Board.{blank}
use Rattle.memory.specs.Memory.{node_in}
use Rattle.kinds.specs.declared.kind.NodeRecord.{NodeRecord}
use Rattle.running.specs.Lent.{Started}

pub mapped_at : (f : NodeRecord → ℕ) (l : List NodeRecord) (k : ℕ) → k < length l → get_or (map f l) k 0 ≡ f (node_in l k)
mapped_at f [] k h = absurd (omega arith)
mapped_at f (r ∷ l) zero h = refl
mapped_at f (r ∷ l) (suc k) h = mapped_at f l k (omega arith)

module _ (start : NodeRecord → ℕ) (nodes : List NodeRecord) where
  pub starts_none : (at : List ℕ) → length at ≡ 64 → Started start nodes 0 at
  starts_none at long = record { long = long; same = refl }

  pub starts_more : (i : ℕ) (at : List ℕ) → i < 64 → i < length nodes → Started start nodes i at → Started start nodes (i + 1) (set at i (start (node_in nodes i)))
  starts_more i at small there s = record {
    long = length-set at i (start (node_in nodes i)) ∙ s.long;
    same = rw add-one
        (take-suc-set at i (start (node_in nodes i)) (omega (arith, s.long))
        ∙ ap (λ (l : List ℕ). l ++ (start (node_in nodes i) ∷ [])) s.same
        ∙ sym (map-append start (take i nodes) (node_in nodes i ∷ []))
        ∙ ap (map start) (sym (take-suc nodes i blank there)));
  }

-- the samples before a stereo node's channel 1, or none
pub channel_start : (size channels : ℕ) → size ≤ 128 → channels ≤ 2 → size * (channels - 1) ≤ 128
channel_start size zero h few = omega arith
channel_start size (suc zero) h few = omega arith
channel_start size (suc (suc zero)) h few = omega arith
channel_start size (suc (suc (suc c))) h few = absurd (omega arith)
