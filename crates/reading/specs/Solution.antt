-- The reading by samples as equations between functions of time, over any nodes' rules. Block b, from 0, has the times b * size to
-- b * size + size - 1, and the wiring in force is that of the last change before it. Every node has a sample at every time. A node that is out
-- of reach stands still: it has its own sample of one block earlier again, the input node the input sample, and what is known of it stays. So
-- one block earlier is always the block that a node last wrote, and a node's history counts the times at which it was run and no others.
-- Scaffolding: crates/samples has the reading with document 01's rows. Assumes nothing.
use Rattle.std.specs.Prelude.{◌≡◌, ℕ, suc, ◌+◌, ◌*◌, ◌/◌, ◌%◌, ◌<◌, Bool, cond, List, [], ◌∷◌, map, get_or, eqb}
use Rattle.reading.specs.Table.{mem}
use Rattle.reading.specs.Order.{sources, late}
use Rattle.reading.specs.Time.{Timed, block_ago, last_block}
use Rattle.reading.specs.Effect.{Effect, inputs, blocks, wiring_after, wiring_in, told}
use Rattle.reading.specs.Board.{Rules, Board, silent, entered}
use Rattle.reading.specs.Blocks.{Cells}

module _ {C W In Out Value : Type 0} (B : Board C W In Out Value) (es : List (Effect W In Value)) where
  -- the time after the last block
  abbrev pub end : ℕ
  end = blocks es * B.size

  abbrev pub in_force : ℕ → W
  in_force t = wiring_in B.first es (t / B.size)

  -- reached are the nodes of the visiting list
  abbrev pub reached : ℕ → ℕ → Bool
  reached t k = mem k (B.visit (in_force t))

  module _ (s : Timed Out) where
    -- what the place held: the input sample at the input node, else the node's own sample of one block earlier
    abbrev pub held_when : Timed Out
    held_when t k = cond (eqb k B.input) (entered B (get_or (inputs es) (t / B.size) []) (t % B.size)) (block_ago B.size (silent B) s t k)

    -- what the wire from a to k brings: its source's sample of the same time, one that is late in the wiring in force that of one block earlier
    abbrev pub brings_when : ℕ → ℕ → ℕ → Out
    brings_when t k a = cond (late (B.visit (in_force t)) a k) (block_ago B.size (silent B) s t a) (s t a)

module _ {C W In Out State Value : Type 0} (B : Board C W In Out Value) (R : W → Rules Out State Value) (es : List (Effect W In Value)) where
  -- numbers are set between blocks
  abbrev pub told_at : ℕ → ℕ → State → State
  told_at t k h = cond (eqb (t % B.size) 0) (told (R B.first).set es (t / B.size) k h) h

  -- a node's sample and what is known of it afterwards: a reached node applies its rule to what its wires bring, another stands still, the
  -- input node's samples excepted
  abbrev pub row : Timed Out → Timed State → ℕ → ℕ → Out × State
  row s u t k =
      cond (reached B es t k)
      ((R (in_force B es t)).step k (t % B.size) (u t k) (held_when B es s t k) (map (λ a. brings_when B es s t k a) (sources (B.wires (in_force B es t)) k)))
      (held_when B es s t k, u t k)

  -- s is the samples, and u what is known of the nodes just before each time
  pub record IsSolution (s : Timed Out) (u : Timed State) : Type 0 where
    pub first : (k : ℕ) → u 0 k ≡ told (R B.first).set es 0 k ((R B.first).fresh k)
    pub sample : (t k : ℕ) → t < end B es → s t k ≡ (row s u t k).0
    pub next : (t k : ℕ) → t < end B es → u (suc t) k ≡ told_at (suc t) k (row s u t k).1

-- ---- afterwards

-- of each node what is known before the next time, and its last block
abbrev pub cells_after : {C W In Out State Value : Type 0} → Board C W In Out Value → List (Effect W In Value) → Timed Out → Timed State → Cells Out State
cells_after B es s u k = record { state = u (end B es) k; samples = last_block B.size (silent B) s (blocks es) k }

-- what each call of a list may write, where w is in force and b blocks have been run before: the output node's last block after it
abbrev pub outputs_by : {C W In Out Value : Type 0} → Board C W In Out Value → Timed Out → W → ℕ → List C → List (List Out)
outputs_by B s w b [] = []
outputs_by B s w b (c ∷ cs) =
    let n = b + blocks (B.effects w c) in
    last_block B.size (silent B) s n B.sink ∷ outputs_by B s (wiring_after w (B.effects w c)) n cs
