-- A block run of one node, on memory that shows cells: the bytes' block run does to the memory what the theory's does to the cells.
--     brought_shown        what a node's wires bring
--     run_long             a block run keeps each cell's lengths
--     run_shown            one node
-- Assumes nothing.
use Prim.Native.Nat.{ℕ, zero, suc, ◌+◌, ◌*◌, ◌≤◌, ◌<◌}
use mathlib.Core.Path.{◌≡◌, refl, sym, ap, subst⁻¹, ◌∙◌}
use mathlib.Core.Logic.{◌≢◌}
use mathlib.Core.Bool.{Bool, true, false, cond, ◌||◌, false≢true}
use mathlib.Core.List.{List, [], ◌∷◌, ◌++◌, map}
use native.Mathlib.Omega.{arith}
use native.Mathlib.Decide.{ℕ_discrete}
use borrow.Author.Tests.{eqb-true, ltb-true}
use lib.Dec.{eqb, ltb}
use lib.Ieee.{Float, nan, binary32, of_bits, to_bits}
use lib.ListN.{length, get_or, set, drop, length-append, length-map, length-set}
use lib.Seq.{paste, take_at, drop_at, set-append_left, map-set}
use Rattle.values.specs.Floats.{float_at}
use Rattle.values.specs.Parts.{part}
use Rattle.kinds.specs.Kind.{channels_of, cell_size, sources_fit, samples_from}
use Rattle.kinds.specs.Iter.{iter}
use Rattle.kinds.specs.Rule.{Brought, Frame, State, keeps, left_by, right_of, sample_by, state_by}
use Rattle.kinds.specs.Cell.{Cell, values_of, cell_of, frame_at, put_frame, step_cell, run_cell}
use Rattle.kinds.specs.Node.{node_run}
use Rattle.kinds.specs.declared.kind.NodeKind.{NodeKind}
use Rattle.kinds.proofs.Cells.{set_append_right}
use Rattle.kinds.proofs.Unread.{unread, sample_unread, state_unread, line_after_long}
use Rattle.reading.specs.Table.{put, mem}
use Rattle.reading.specs.Order.{Wire, sources}
use Rattle.reading.specs.Board as theory
use Rattle.reading.specs.Blocks as blocks
use Rattle.reading.proofs.Table.{put_same, put_other, map_agree, mem_at}
use Rattle.sources.specs.Sources.{add_all, distinct, distinct_sources, second_source}
use Rattle.boards.specs.Board.{blank, Parsed}
use Rattle.memory.specs.Memory.{node_at, kind_at}
use Rattle.running.specs.Run.{left_start, right_start, lefts, rights, brought_by, run_node}
use Rattle.samples.specs.Reading.{silence, right_sample, samples_of}
use Rattle.samples.specs.Instance.{Cells, net_of, memory_rules, frame_of, brought_from, cell_in, shown}
use Rattle.memory.specs.Fine.{Fine}
use Rattle.boards.proofs.RoundSources.{mem_distinct}
use Rattle.memory.proofs.FineBoard.{source_there}
use Rattle.running.proofs.CallStarts.{mapped_at}
use Rattle.samples.proofs.ShownCells.{lefts_of, rights_of, samples_length, samples_left, samples_right, cell_held, LongCell, Long, shown_agree, shown_part, shown_left, shown_right, paste_shown}

-- ---- sources

-- of frames in wire order, the one that a source brings
pub frame_of_lem : (f : ℕ → Frame) (ss : List ℕ) (a : ℕ) → mem a ss ≡ true → frame_of ss (map f ss) a ≡ f a
frame_of_lem f [] a e = absurd (false≢true e)
frame_of_lem f (s ∷ ss) a e = go (eqb a s) refl e (frame_of_lem f ss a)
  where
    go : (b : Bool) → eqb a s ≡ b → (b || mem a ss) ≡ true → (mem a ss ≡ true → frame_of ss (map f ss) a ≡ f a)
        → cond b (f s) (frame_of ss (map f ss) a) ≡ f a
    go true q e ih = ap f (sym (eqb-true a s q))
    go false q e ih = ih e

all_fewer : (xs l : List ℕ) → length (add_all l xs) ≤ length l + length xs
all_fewer [] l = omega arith
all_fewer (x ∷ xs) l = go (mem x l) (all_fewer xs)
  where
    go : (b : Bool) → ((m : List ℕ) → length (add_all m xs) ≤ length m + length xs)
        → length (add_all (cond b l (l ++ (x ∷ []))) xs) ≤ length l + suc (length xs)
    go true ih = omega (arith, ih l)
    go false ih = omega (arith, ih (l ++ (x ∷ [])), length-append l (x ∷ []))

-- where there are two sources there is a second wire
pub second_source_lem : (ws : List Wire) (k : ℕ) → 1 < length (distinct_sources ws k) → mem (second_source ws k) (sources ws k) ≡ true
unfolding distinct
second_source_lem ws k h = mem_at (sources ws k) 1 (omega (arith, all_fewer (sources ws k) []))

-- ---- what the wires bring

-- the frames that stand at place i
abbrev place_in : Parsed → Cells → ℕ → ℕ → Frame
place_in p c i a = blocks.place (net_of p) c a i

module _ (p : Parsed) (fine : Fine p) (k : ℕ) where
  abbrev srcs : List ℕ
  srcs = sources p.wires k

  abbrev once : List ℕ
  once = distinct_sources p.wires k

  -- d is the cells while node k runs: the others are still as in c
  module _ (c d : Cells) (long : Long p c) (others : (j : ℕ) → j ≢ k → d j ≡ c j) (i : ℕ) (small : i < p.size) where
    abbrev brings : ℕ → Frame
    brings = frame_of srcs (map (place_in p d i) srcs)

    source_brings : (a : ℕ) → mem a srcs ≡ true → brings a ≡ place_in p c i a
    source_brings a e = frame_of_lem (place_in p d i) srcs a e ∙ ap (λ (x : blocks.Cell Frame State). get_or x.samples i silence) (others a (source_there p fine k a e).1)

    left_is : (a : ℕ) → mem a srcs ≡ true → of_bits binary32 (brings a).left ≡ float_at (shown p c) (get_or (lefts p) a 0 + i)
    left_is a e =
        let t = (source_there p fine k a e).0 in
        ap (λ (f : Frame). of_bits binary32 f.left) (source_brings a e)
        ∙ ap (of_bits binary32) (sym (shown_left p fine c long a t i small))
        ∙ ap (λ (n : ℕ). float_at (shown p c) (n + i)) (sym (mapped_at left_start p.nodes a t))

    right_is : (a : ℕ) → mem a srcs ≡ true → of_bits binary32 (right_sample p a (brings a)) ≡ float_at (shown p c) (get_or (rights p) a 0 + i)
    right_is a e =
        let t = (source_there p fine k a e).0 in
        ap (λ (f : Frame). of_bits binary32 (right_sample p a f)) (source_brings a e)
        ∙ ap (of_bits binary32) (sym (shown_right p fine c long a t i small))
        ∙ ap (λ (n : ℕ). float_at (shown p c) (n + i)) (sym (mapped_at (right_start p.size) p.nodes a t))

    second_is : (q : Bool) → ltb 1 (length once) ≡ q
        → cond q (of_bits binary32 (brings (second_source p.wires k)).left) nan
        ≡ cond q (float_at (shown p c) (get_or (lefts p) (second_source p.wires k) 0 + i)) nan
    second_is true e = left_is (second_source p.wires k) (second_source_lem p.wires k (ltb-true 1 (length once) e))
    second_is false e = refl

    in_once : (a : ℕ) → mem a once ≡ true → mem a srcs ≡ true
    in_once a e = sym (mem_distinct a srcs) ∙ e

    pub brought_shown : brought_from p k (map (place_in p d i) (sources p.wires k)) ≡ unread (brought_by p (shown p c) k i)
    brought_shown =
        let ls = map_agree (λ a. of_bits binary32 (brings a).left) (λ a. float_at (shown p c) (get_or (lefts p) a 0 + i)) once (λ a e. left_is a (in_once a e)) in
        let rs =
        map_agree (λ a. of_bits binary32 (right_sample p a (brings a))) (λ a. float_at (shown p c) (get_or (rights p) a 0 + i)) once
        (λ a e. right_is a (in_once a e)) in
        let s =
        second_is (ltb 1 (length once)) refl
        ∙ ap (λ (n : ℕ). cond (ltb 1 n) (float_at (shown p c) (get_or (lefts p) (second_source p.wires k) 0 + i)) nan)
        (sym (length-map once (λ a. float_at (shown p c) (get_or (lefts p) a 0 + i)))) in
        λ j. record { left = ls j; right = rs j; second = s j }

-- ---- one sample

-- a frame written among the samples
put_frame_lem : (channels N i : ℕ) (f : Frame) (fs : List Frame) → length fs ≡ N → i < N
    → samples_of channels (set fs i f) ≡ put_frame channels N i f (samples_of channels fs)
unfolding put_frame
put_frame_lem channels N i f fs long small = go (eqb channels 2)
  where
    both : lefts_of (set fs i f) ++ rights_of (set fs i f) ≡ set (set (lefts_of fs ++ rights_of fs) i f.left) (N + i) f.right
    both =
        let ll : length (lefts_of fs) ≡ length fs = length-map fs (λ (x : Frame). x.left) in
        let ls : length (set (lefts_of fs) i f.left) ≡ N = length-set (lefts_of fs) i f.left ∙ ll ∙ long in
        ap (λ (l : List ℕ). l ++ rights_of (set fs i f)) (map-set (λ (x : Frame). x.left) fs i f)
        ∙ ap (λ (l : List ℕ). set (lefts_of fs) i f.left ++ l) (map-set (λ (x : Frame). x.right) fs i f)
        ∙ sym (set_append_right (set (lefts_of fs) i f.left) (rights_of fs) i f.right)
        ∙ ap (λ (n : ℕ). set (set (lefts_of fs) i f.left ++ rights_of fs) (n + i) f.right) ls
        ∙ ap (λ (l : List ℕ). set l (N + i) f.right) (sym (set-append_left (lefts_of fs) (rights_of fs) i f.left (omega arith)))

    go : (b : Bool) → cond b (lefts_of (set fs i f) ++ rights_of (set fs i f)) (lefts_of (set fs i f))
        ≡ cond b (set (set (cond b (lefts_of fs ++ rights_of fs) (lefts_of fs)) i f.left) (N + i) f.right)
        (set (cond b (lefts_of fs ++ rights_of fs) (lefts_of fs)) i f.left)
    go true = both
    go false = map-set (λ (x : Frame). x.left) fs i f

-- of what stands at its place a rule's channel 0 takes channel 0
sample_left : (k : NodeKind) (s : State) (h g : Frame) (b : Brought) → h.left ≡ g.left → (sample_by k s h b).left ≡ (sample_by k s g b).left
unfolding sample_by
sample_left k s h g b e = go (keeps k b) (left_by k s b)
  where
    new : Float → Frame
    new x = record { left = to_bits binary32 x; right = to_bits binary32 (right_of k b) }

    go : (q : Bool) (x : Float) → (cond q h (new x)).left ≡ (cond q g (new x)).left
    go true x = e
    go false x = refl

-- the frame that stands in a cell's samples is the theory's, but for channel 1 of a node of one channel, which is not shown
held_frame : (k : NodeKind) (s : State) (b : Brought) (N i : ℕ) (fs : List Frame) (l : List ℕ) → length fs ≡ N → i < N
    → put_frame (channels_of k) N i (sample_by k s (get_or fs i silence) b) l
    ≡ put_frame (channels_of k) N i (sample_by k s (frame_at N i (samples_of (channels_of k) fs)) b) l
unfolding put_frame frame_at
held_frame k s b N i fs l long small = go (eqb (channels_of k) 2) refl
  where
    there : Frame
    there = get_or fs i silence

    shows : Frame
    shows = frame_at N i (samples_of (channels_of k) fs)

    same_left : there.left ≡ shows.left
    same_left = sym (samples_left k fs N long i small)

    Put : Bool → Frame → List ℕ
    Put q f = cond q (set (set l i f.left) (N + i) f.right) (set l i f.left)

    go : (q : Bool) → eqb (channels_of k) 2 ≡ q → Put q (sample_by k s there b) ≡ Put q (sample_by k s shows b)
    go true e =
        let same : there ≡ shows = λ j. record { left = same_left j; right = sym (samples_right k fs N long i e) j } in
        ap (λ (f : Frame). Put true (sample_by k s f b)) same
    go false e = ap (set l i) (sample_left k s there shows b same_left)

-- ---- a cell and its values

three_on : (n : ℕ) → samples_from + n ≡ suc (suc (suc n))
three_on n = omega arith

pub cell_values : (N : ℕ) (k : NodeKind) (d : Cell) → length d.samples ≡ N * channels_of k → cell_of N k (values_of d) ≡ d
unfolding values_of cell_of
cell_values N k d e =
    let all : List ℕ = d.samples ++ d.state.line in
    let line : drop (samples_from + N * channels_of k) (d.state.number ∷ d.state.carry ∷ d.state.place ∷ all) ≡ d.state.line =
    rw (three_on (N * channels_of k)) (drop_at d.samples d.state.line (N * channels_of k) e) in
    λ j. record {
      state = record { number = d.state.number; carry = d.state.carry; place = d.state.place; line = line j };
      samples = take_at d.samples d.state.line (N * channels_of k) e j;
    }

-- ---- one node

module _ (p : Parsed) (k : ℕ) where
  abbrev B : theory.Net Frame
  B = net_of p

  abbrev R : theory.Rules Frame State ℕ
  R = memory_rules p

  -- what one sample makes of node k's cell
  abbrev stepped : Cells → ℕ → blocks.Cell Frame State
  stepped d i = record { state = (blocks.result B R k i d).1; samples = set (d k).samples i (blocks.result B R k i d).0 }

  step_own : (d : Cells) (i : ℕ) → blocks.run_sample B R k i d k ≡ stepped d i
  step_own d i = put_same d k (stepped d i) refl

  step_long : (d : Cells) (i : ℕ) → LongCell p k (d k) → LongCell p k (blocks.run_sample B R k i d k)
  unfolding memory_rules state_by
  step_long d i h =
      subst⁻¹ (LongCell p k) (step_own d i) (record {
        samples = length-set (d k).samples i (blocks.result B R k i d).0 ∙ h.samples;
        line = line_after_long (kind_at p k) (d k).state.place _ _ (d k).state.line ∙ h.line;
      })

  -- node k's cell after i samples, by the theory
  abbrev ran : Cells → ℕ → Cells
  ran c i = blocks.run_node B R k i c

  pub others_stay : (c : Cells) (i j : ℕ) → j ≢ k → blocks.run_node (net_of p) (memory_rules p) k i c j ≡ c j
  others_stay c zero j n = refl
  others_stay c (suc i) j n = put_other (ran c i) k (stepped (ran c i) i) n ∙ others_stay c i j n

  own_long : (c : Cells) → LongCell p k (c k) → (i : ℕ) → LongCell p k (ran c i k)
  own_long c h zero = h
  own_long c h (suc i) = step_long (ran c i) i (own_long c h i)

  pub run_long : (c : Cells) → Long p c → (i : ℕ) → Long p (blocks.run_node (net_of p) (memory_rules p) k i c)
  run_long c long i j = go (ℕ_discrete j k)
    where
      go : Dec (j ≡ k) → LongCell p j (ran c i j)
      go (yes e) = subst⁻¹ (λ (n : ℕ). LongCell p n (ran c i n)) e (own_long c (long k) i)
      go (no n) = subst⁻¹ (LongCell p j) (others_stay c i j n) (long j)

module _ (p : Parsed) (fine : Fine p) (c : Cells) (long : Long p c) (k : ℕ) (there : k < length p.nodes) where
  abbrev kind : NodeKind
  kind = kind_at p k

  -- what the bytes' block run takes for what the wires bring
  abbrev bs : ℕ → Brought
  bs = brought_by p (shown p c) k

  fits_here : (i : ℕ) → sources_fit kind (length (bs i).left) ≡ true
  fits_here i =
      ap (sources_fit kind) (length-map (distinct_sources p.wires k) (λ a. float_at (shown p c) (get_or (lefts p) a 0 + i)))
      ∙ fine.formed.sources_fit_lem blank k there

  -- one sample: d is the cells by then
  step_shown : (d : Cells) → LongCell p k (d k) → ((j : ℕ) → j ≢ k → d j ≡ c j) → (i : ℕ) → i < p.size
      → cell_held p k (blocks.run_sample (net_of p) (memory_rules p) k i d k) ≡ step_cell kind p.size bs i (cell_in p d k)
  unfolding step_cell memory_rules
  step_shown d own others i small =
      let s : State = (d k).state in
      let fs : List Frame = (d k).samples in
      let b = brought_shown p fine k c d long others i small in
      let state : state_by kind s (brought_from p k (map (place_in p d i) (sources p.wires k))) ≡ state_by kind s (bs i) =
      ap (state_by kind s) b ∙ sym (state_unread kind (bs i) s) in
      let frame : sample_by kind s (get_or fs i silence) (brought_from p k (map (place_in p d i) (sources p.wires k))) ≡ sample_by kind s (get_or fs i silence) (bs i) =
      ap (sample_by kind s (get_or fs i silence)) b ∙ sym (sample_unread kind (bs i) (fits_here i) s (get_or fs i silence)) in
      let samples =
      ap (λ (f : Frame). samples_of (channels_of kind) (set fs i f)) frame
      ∙ put_frame_lem (channels_of kind) p.size i (sample_by kind s (get_or fs i silence) (bs i)) fs own.samples small
      ∙ held_frame kind s (bs i) p.size i fs (samples_of (channels_of kind) fs) own.samples small in
      ap (cell_held p k) (step_own p k d i) ∙ (λ j. record { state = state j; samples = samples j })

  cell_shown : (i : ℕ) → i ≤ p.size
      → cell_held p k (blocks.run_node (net_of p) (memory_rules p) k i c k) ≡ iter (step_cell kind p.size bs) i (cell_in p c k)
  unfolding iter
  cell_shown zero h = refl
  cell_shown (suc i) h =
      step_shown (ran p k c i) (own_long p k c (long k) i) (others_stay p k c i) i (omega arith)
      ∙ ap (step_cell kind p.size bs i) (cell_shown i (omega arith))

  -- a node's block run
  pub run_shown : run_node p k (shown p c) ≡ shown p (blocks.run_node (net_of p) (memory_rules p) k p.size c)
  unfolding run_node node_run run_cell
  run_shown =
      let at : ℕ = (node_at p k).cell in
      let size : ℕ = cell_size p.size kind in
      let after : Cells = blocks.run_node (net_of p) (memory_rules p) k p.size c in
      let cell : cell_of p.size kind (part (shown p c) at size) ≡ cell_in p c k =
      ap (cell_of p.size kind) (shown_part p fine c long k there)
      ∙ cell_values p.size kind (cell_in p c k) (samples_length kind (c k).samples p.size (long k).samples) in
      ap (λ (d : Cell). paste (shown p c) at (values_of (iter (step_cell kind p.size bs) p.size d)) size) cell
      ∙ ap (λ (d : Cell). paste (shown p c) at (values_of d) size) (sym (cell_shown p.size (omega arith)))
      ∙ paste_shown p fine c long k there (after k) (own_long p k c (long k) p.size)
      ∙ shown_agree p (put c k (after k)) after (length p.nodes) (λ j l. put_after j (ℕ_discrete j k))
    where
      put_after : (j : ℕ) → Dec (j ≡ k)
          → put c k (blocks.run_node (net_of p) (memory_rules p) k p.size c k) j ≡ blocks.run_node (net_of p) (memory_rules p) k p.size c j
      put_after j (yes e) = put_same c k (ran p k c p.size k) e ∙ ap (ran p k c p.size) (sym e)
      put_after j (no n) = put_other c k (ran p k c p.size k) n ∙ sym (others_stay p k c p.size j n)
