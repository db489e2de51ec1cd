-- What a list of calls leaves and answers, by the theory, is what the reading by samples says:
--     accepted-whole, accepted_fit    the blocks that accepted calls run are whole, and the numbers that they set in range
--     memory_shown     the cells of every node afterwards show every byte of the memory
--     replies_shown    what the calls wrote are the replies
-- Assumes nothing.
use Prim.Native.Nat.{ℕ, zero, suc, ◌+◌, ◌-◌, ◌*◌, ◌/◌, ◌%◌, ◌<◌}
use mathlib.Core.Path.{◌≡◌, refl, sym, ap, ◌∙◌}
use mathlib.Core.List.{List, [], ◌∷◌, ◌++◌}
use mathlib.Core.Bool.{Bool, true, false, cond}
use native.Mathlib.Nat.{mul-div_cancel}
use native.Mathlib.Omega.{arith}
use borrow.Author.Tests.{eqb-true, leb-true, le-leb, lt-leb}
use lib.Dec.{eqb, leb}
use lib.Arith.{digits_div, digits_mod}
use lib.ListN.{length, get_or, replicate, length-replicate}
use lib.Seq.{ext_get_or}
use Rattle.values.specs.Words.{unwords}
use Rattle.kinds.specs.Kind.{channels_of}
use Rattle.kinds.specs.Rule.{Frame, State, with_number}
use Rattle.kinds.specs.Cell.{Cell, values_of, fresh_cell}
use Rattle.kinds.specs.History.{Heard, fresh_heard, set_number, state_of}
use Rattle.kinds.proofs.HistoryFrames.{map_tab}
use Rattle.reading.specs.Table.{tab, joined, All}
use Rattle.reading.specs.Effect.{Effect, run, set, rewire, inputs, blocks, wiring_after, told_by, heard}
use Rattle.reading.specs.Time.{Timed, last_block}
use Rattle.reading.specs.Solution.{outputs_by}
use Rattle.reading.specs.Memory.{answers}
use Rattle.reading.proofs.Table.{joined_agree, tab_agree, tab_constant, length_tab, get_d_tab}
use Rattle.boards.specs.Board.{Parsed}
use Rattle.memory.specs.Memory.{kind_at}
use Rattle.samples.specs.Reading.{mono, Call, silence, reached, Fixed, effects, accepted, end, input_at, ago_n, IsReading, samples_of, last_of, last_number, reached_cell, other_cell, cell_after, memory_after, Reply, reply_to, replies_to}
use Rattle.samples.specs.Instance.{board_with, memory_rules, reading_rules}
use Rattle.memory.specs.Fine.{Fine}
use Rattle.samples.proofs.Lawful.{encodes}
use Rattle.samples.proofs.ShownCall.{NumberFits, Whole, effects_fit, effects-whole}
use Rattle.samples.proofs.ShownFresh.{fresh_cell_lem}
use Rattle.samples.proofs.DemandReading.{still, whole, whole_other, ago_reached, input_whole, before}

-- ---- the last block

-- whole blocks of n, as input blocks are
abbrev pub Blocks : ℕ → List (List ℕ) → Type 0
Blocks n bs = All (λ (x : List ℕ). length x ≡ n) bs

-- what holds of the effects of every call holds of all
pub heard_all : (p : Parsed) (P : Effect Fixed ℕ ℕ → Type 0) → ((c : Call) → All P (effects p c)) → (cs : List Call) → All P (accepted p cs)
unfolding heard
heard_all p P each = go tt
  where
    both : (es fs : List (Effect Fixed ℕ ℕ)) → All P es → All P fs → All P (es ++ fs)
    both [] fs a b = b
    both (e ∷ es) fs a b = (a.0, both es fs a.1 b)

    go : (w : Fixed) (cs : List Call) → All P (heard (λ v c. effects p c) w cs)
    go w [] = tt
    go w (c ∷ cs) = both (effects p c) _ (each c) (go (wiring_after w (effects p c)) cs)

inputs_whole : (n : ℕ) (es : List (Effect Fixed ℕ ℕ)) → All (Whole n) es → Blocks n (inputs es)
inputs_whole n [] a = tt
inputs_whole n (run xs ∷ es) a = (a.0, inputs_whole n es a.1)
inputs_whole n (set k v ∷ es) a = inputs_whole n es a.1
inputs_whole n (rewire w ∷ es) a = inputs_whole n es a.1

pub accepted-whole : (p : Parsed) (cs : List Call) → Blocks p.size (inputs (accepted p cs))
accepted-whole p cs = inputs_whole p.size (accepted p cs) (heard_all p (Whole p.size) (λ c. effects-whole Fixed p c) cs)

pub accepted_fit : (p : Parsed) (cs : List Call) → All (NumberFits p) (accepted p cs)
accepted_fit p cs = heard_all p (NumberFits p) (λ c. effects_fit Fixed p c) cs

last_get : (z : List ℕ) (x : List ℕ) (xs : List (List ℕ)) → last_of z (x ∷ xs) ≡ get_or (x ∷ xs) (length xs) []
unfolding last_of
last_get z x [] = refl
last_get z x (y ∷ ys) = last_get x y ys

last_whole : (n : ℕ) (z : List ℕ) (bs : List (List ℕ)) → length z ≡ n → Blocks n bs → length (last_of z bs) ≡ n
unfolding last_of
last_whole n z [] h w = h
last_whole n z (x ∷ xs) h w = last_whole n x xs w.0 w.1

-- the sample of time t in blocks of n, and the one of n earlier, zero before time 0
abbrev sample_at : ℕ → List (List ℕ) → ℕ → ℕ
sample_at n bs t = get_or (get_or bs (t / n) []) (t % n) 0

abbrev sample_before : ℕ → List (List ℕ) → ℕ → ℕ
sample_before n bs t = cond (leb n t) (sample_at n bs (t - n)) 0

-- those of the n times after the last block are the last block
last_block_lem : (n : ℕ) (bs : List (List ℕ)) → Blocks n bs → tab n (λ i. sample_before n bs (length bs * n + i)) ≡ last_of (replicate n 0) bs
unfolding last_of
last_block_lem n [] w = tab_agree n (λ i. sample_before n [] (0 * n + i)) (λ i. 0) early ∙ tab_constant n 0
  where
    early : (i : ℕ) → i < n → sample_before n [] (0 * n + i) ≡ 0
    early i h = ap (λ (b : Bool). cond b (sample_at n [] (0 * n + i - n)) 0) (lt-leb n (0 * n + i) (omega arith))
last_block_lem n (x ∷ xs) w =
    tab_agree n (λ i. sample_before n (x ∷ xs) (suc (length xs) * n + i)) (λ i. get_or last i 0) at
    ∙ ext_get_or 0 (tab n (λ i. get_or last i 0)) last (length_tab n (λ i. get_or last i 0) ∙ sym long)
    (λ i h. get_d_tab n (λ j. get_or last j 0) i 0 (omega (arith, length_tab n (λ j. get_or last j 0))))
  where
    last : List ℕ
    last = last_of (replicate n 0) (x ∷ xs)

    long : length last ≡ n
    long = last_whole n (replicate n 0) (x ∷ xs) (length-replicate n 0) w

    at : (i : ℕ) → i < n → sample_before n (x ∷ xs) (suc (length xs) * n + i) ≡ get_or last i 0
    at i h =
        let t : ℕ = suc (length xs) * n + i in
        let e : t - n ≡ length xs * n + i = omega arith in
        ap (λ (b : Bool). cond b (sample_at n (x ∷ xs) (t - n)) 0) (le-leb n t (omega arith))
        ∙ ap (sample_at n (x ∷ xs)) e
        ∙ (λ j. get_or (get_or (x ∷ xs) (digits_div (length xs) h j) []) (digits_mod (length xs) h j) 0)
        ∙ ap (λ (l : List ℕ). get_or l i 0) (sym (last_get (replicate n 0) x xs))

-- ---- a node that hears its messages alone

number-alone : {W : Type 0} (es : List (Effect W ℕ ℕ)) (b k : ℕ) (h : Heard)
    → told_by (λ j. set_number) es b k h ≡ set_number (told_by (λ j v n. v) es b k h.number) h
unfolding set_number
number-alone [] b k h = refl
number-alone (run xs ∷ es) zero k h = refl
number-alone (run xs ∷ es) (suc b) k h = number-alone es b k h
number-alone (set j v ∷ es) b k h = go (eqb k j) (number-alone es b k)
  where
    go : (q : Bool) → ((g : Heard) → told_by (λ i. set_number) es b k g ≡ set_number (told_by (λ i x n. x) es b k g.number) g)
        → told_by (λ i. set_number) es b k (cond q (set_number v h) h) ≡ set_number (told_by (λ i x n. x) es b k (cond q v h.number)) h
    go true ih = ih (set_number v h)
    go false ih = ih h
number-alone (rewire w ∷ es) b k h = number-alone es b k h

module _ (p : Parsed) (fine : Fine p) (es : List (Effect Fixed ℕ ℕ)) (s : Timed Frame) (u : Timed Heard) (f : IsReading p es s u)
    (whole-blocks : Blocks p.size (inputs es)) where
  -- the samples and what is known with those of the nodes that are not reached
  abbrev full : Timed Frame
  full = whole p fine es s

  abbrev known : Timed Heard
  known = before p fine es s u

  -- ---- the memory afterwards

  module _ (k : ℕ) where
    abbrev channels : ℕ
    channels = channels_of (kind_at p k)

    -- the frames of the last block
    abbrev frames : List Frame
    frames = last_block p.size silence full (blocks es) k

    -- the state, by whether the node is reached
    state_after : state_of (kind_at p k) (known (end p es) k) ≡ (cond (reached p k) (reached_cell p es s u k) (other_cell p es s u k)).state
    unfolding memory_rules reading_rules fresh_cell fresh_heard
    state_after = go (reached p k)
      where
        other : state_of (kind_at p k) (still p fine es (end p es) k) ≡ (other_cell p es s u k).state
        other =
            let n : ℕ = last_number p es k in
            let enc = encodes p fine in
            ap (λ (b : ℕ). state_of (kind_at p k) (told_by (λ j. set_number) es b k (fresh_heard (kind_at p k)))) (mul-div_cancel (blocks es) fine.least_size)
            ∙ ap (state_of (kind_at p k)) (number-alone es (blocks es) k (fresh_heard (kind_at p k)))
            ∙ sym (enc.set k n (fresh_heard (kind_at p k)))
            ∙ ap (λ (s : State). with_number s n) (sym (enc.fresh k))

        go : (b : Bool) → state_of (kind_at p k) (cond b (u (end p es) k) (still p fine es (end p es) k)) ≡ (cond b (reached_cell p es s u k) (other_cell p es s u k)).state
        go true = refl
        go false = other

    -- the samples of another node than the input node
    samples_other : eqb k p.input ≡ false → samples_of channels frames ≡ (cond (reached p k) (reached_cell p es s u k) (other_cell p es s u k)).samples
    samples_other e = go (reached p k) refl
      where
        quiet : reached p k ≡ false → (t : ℕ) (b : Bool) → cond b (full t k) silence ≡ silence
        quiet r t true = whole_other p fine es s t k r ∙ ap (λ (c : Bool). cond c (mono (input_at p es t)) silence) e
        quiet r t false = refl

        go : (b : Bool) → reached p k ≡ b → samples_of channels frames ≡ (cond b (reached_cell p es s u k) (other_cell p es s u k)).samples
        go true r = ap (samples_of channels) (tab_agree p.size _ _ (λ j h. ago_reached p fine es s (end p es + j) k r))
        go false r =
            ap (samples_of channels)
            (tab_agree p.size _ _ (λ i h. quiet r (end p es + i - p.size) (leb p.size (end p es + i))) ∙ tab_constant p.size silence)
            ∙ ap (λ (c : Cell). c.samples) (sym (fresh_cell_lem p k))

    -- the input node's
    samples_input : k ≡ p.input → samples_of channels frames ≡ last_of (replicate p.size 0) (inputs es)
    samples_input e =
        ap (λ (c : ℕ). samples_of c frames) (ap channels_of (ap (kind_at p) e ∙ fine.input_pass))
        ∙ map_tab (λ f. f.left) p.size (λ i. ago_n p full (end p es + i) k)
        ∙ tab_agree p.size _ _ (λ i h. go (end p es + i) (leb p.size (end p es + i)) refl (omega arith))
        ∙ last_block_lem p.size (inputs es) whole-blocks
      where
        go : (t : ℕ) (b : Bool) → leb p.size t ≡ b → t < end p es + p.size
            → (cond b (full (t - p.size) k) silence).left ≡ cond b (input_at p es (t - p.size)) 0
        go t true l h =
            let m = leb-true p.size t l in
            ap (λ (x : Frame). x.left) (ap (full (t - p.size)) e ∙ input_whole p fine es s u f (t - p.size) (omega arith))
        go t false l h = refl

    samples_after : samples_of channels frames ≡ (cell_after p es s u k).samples
    samples_after = go (eqb k p.input) refl
      where
        go : (b : Bool) → eqb k p.input ≡ b
            → samples_of channels frames
            ≡ cond b (last_of (replicate p.size 0) (inputs es)) (cond (reached p k) (reached_cell p es s u k) (other_cell p es s u k)).samples
        go true e = samples_input (eqb-true k p.input e)
        go false e = samples_other e

    cell_after_lem : reached_cell p es full known k ≡ cell_after p es s u k
    cell_after_lem = λ i. record { state = state_after i; samples = samples_after i }

  pub memory_shown : unwords (joined (length p.nodes) (λ k. values_of (reached_cell p es (whole p fine es s) (before p fine es s u) k))) ≡ memory_after p es s u
  memory_shown = ap unwords (joined_agree (length p.nodes) _ _ (λ k h. ap values_of (cell_after_lem k)))

-- ---- the replies

-- they look at node 0's samples alone
pub replies_same : (p : Parsed) (r s : Timed Frame) → ((t : ℕ) → r t 0 ≡ s t 0) → (cs : List Call) (b : ℕ) → replies_to p r b cs ≡ replies_to p s b cs
unfolding replies_to
replies_same p r s same [] b = refl
replies_same p r s same (c ∷ cs) b =
    let n : ℕ = b + blocks {W = Fixed} (effects p c) in
    let last : last_block p.size silence r n 0 ≡ last_block p.size silence s n 0 =
    tab_agree p.size _ _ (λ i h. ap (λ (x : Frame). cond (leb p.size (n * p.size + i)) x silence) (same (n * p.size + i - p.size))) in
    λ i. reply_to p c (last i) ∷ replies_same p r s same cs n i

-- and are what the theory's calls answer
pub replies_shown : (p : Parsed) (s : Timed Frame) (cs : List Call) (w : Fixed) (b : ℕ)
    → answers (board_with p tt (λ v. p.wires) (λ v c. effects p c)) (λ v c fs. reply_to p c fs) w cs
    (outputs_by (board_with p tt (λ v. p.wires) (λ v c. effects p c)) s w b cs) ≡ replies_to p s b cs
unfolding replies_to
replies_shown p s [] w b = refl
replies_shown p s (c ∷ cs) w b =
    let n : ℕ = b + blocks {W = Fixed} (effects p c) in
    ap (λ (rs : List Reply). reply_to p c (last_block p.size silence s n 0) ∷ rs) (replies_shown p s cs (wiring_after w (effects p c)) n)
