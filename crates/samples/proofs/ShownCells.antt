-- Cells in place: where a cell, and a sample of it, stands in the values of the memory that cells stand for, and what a change of a cell does
-- to them.
--     Long, LongCell       a cell has N samples, and as many line values as its kind says
--     around               the memory as what stands before a cell, the cell's values and what stands after it
--     shown_long           the memory's length
--     shown_at, shown_part a value of a cell, all of them
--     shown_left, shown_right    a sample, where a block run reads it
--     paste_shown          a cell replaced
-- Assumes nothing.
use Prim.Native.Nat.{ℕ, zero, suc, ◌+◌, ◌-◌, ◌*◌, ◌≤◌, ◌<◌}
use mathlib.Core.Path.{◌≡◌, refl, sym, ap, ◌∙◌}
use mathlib.Core.Bool.{Bool, true, false, cond, true≢false}
use mathlib.Core.List.{List, [], ◌∷◌, ◌++◌, map, append_assoc, append-nil}
use native.Mathlib.Omega.{arith}
use native.Mathlib.Decide.{ℕ_discrete}
use borrow.Author.Tests.{eqb-true}
use lib.Dec.{eqb}
use lib.ListN.{length, get_or, take, drop, length-append, length-map, get_or-append, get_or-map}
use lib.Seq.{paste, get_or-append-add, take_at, drop_at, drop-drop, take_all, take-length}
use Rattle.values.specs.Parts.{part}
use Rattle.kinds.specs.Row.{Writes, mono, keeping, stereo, row_of}
use Rattle.kinds.specs.Kind.{channels_by, channels_of, line_of, cell_size, samples_from}
use Rattle.kinds.specs.Rule.{Frame, State}
use Rattle.kinds.specs.Cell.{Cell, values_of}
use Rattle.kinds.specs.declared.kind.NodeKind.{NodeKind}
use Rattle.kinds.specs.declared.kind.NodeRecord.{NodeRecord}
use Rattle.kinds.proofs.Cells.{length_values, get_sample}
use Rattle.reading.specs.Table.{put}
use Rattle.reading.specs.Blocks as blocks
use Rattle.reading.proofs.Table.{put_same, put_other, joined_agree}
use Rattle.boards.specs.Board.{blank, Parsed, cells_of}
use Rattle.memory.specs.Memory.{node_at, kind_at}
use Rattle.running.specs.Run.{left_start, right_start}
use Rattle.samples.specs.Reading.{silence, right_sample, samples_of}
use Rattle.samples.specs.Instance.{Cells, cell_in, shown_to, shown}
use Rattle.memory.specs.Fine.{Fine}

-- ---- frames as a cell's samples

abbrev pub lefts_of : List Frame → List ℕ
lefts_of fs = map (λ f. f.left) fs

abbrev pub rights_of : List Frame → List ℕ
rights_of fs = map (λ f. f.right) fs

-- a kind has one channel or two
channels_by_lem : (w : Writes) (b : Bool) → eqb (channels_by w) 2 ≡ b → channels_by w ≡ cond b 2 1
channels_by_lem w true e = eqb-true (channels_by w) 2 e
channels_by_lem (mono l) false e = refl
channels_by_lem (keeping l) false e = refl
channels_by_lem (stereo l r) false e = absurd (true≢false e)

pub channels_are : (k : NodeKind) (b : Bool) → eqb (channels_of k) 2 ≡ b → channels_of k ≡ cond b 2 1
channels_are k = channels_by_lem (row_of k).writes

module _ (k : NodeKind) (fs : List Frame) (N : ℕ) (long : length fs ≡ N) where
  pub samples_length : length (samples_of (channels_of k) fs) ≡ N * channels_of k
  samples_length = go (eqb (channels_of k) 2) refl
    where
      go : (b : Bool) → eqb (channels_of k) 2 ≡ b → length (cond b (lefts_of fs ++ rights_of fs) (lefts_of fs)) ≡ N * channels_of k
      go true e =
          rw (channels_are k true e)
          (omega (arith, length-append (lefts_of fs) (rights_of fs), length-map fs (λ (f : Frame). f.left), length-map fs (λ (f : Frame). f.right)))
      go false e = rw (channels_are k false e) (omega (arith, length-map fs (λ (f : Frame). f.left)))

  pub samples_left : (i : ℕ) → i < N → get_or (samples_of (channels_of k) fs) i 0 ≡ (get_or fs i silence).left
  samples_left i h = go (eqb (channels_of k) 2)
    where
      go : (b : Bool) → get_or (cond b (lefts_of fs ++ rights_of fs) (lefts_of fs)) i 0 ≡ (get_or fs i silence).left
      go true =
          get_or-append (lefts_of fs) (rights_of fs) 0 i (omega (arith, length-map fs (λ (f : Frame). f.left)))
          ∙ get_or-map (λ (f : Frame). f.left) fs i silence
      go false = get_or-map (λ (f : Frame). f.left) fs i silence

  -- of a stereo node
  pub samples_right : (i : ℕ) → eqb (channels_of k) 2 ≡ true → get_or (samples_of (channels_of k) fs) (N + i) 0 ≡ (get_or fs i silence).right
  samples_right i e =
      let s : length (lefts_of fs) ≡ N = length-map fs (λ (f : Frame). f.left) ∙ long in
      ap (λ (b : Bool). get_or (cond b (lefts_of fs ++ rights_of fs) (lefts_of fs)) (N + i) 0) e
      ∙ ap (λ (n : ℕ). get_or (lefts_of fs ++ rights_of fs) (n + i) 0) (sym s)
      ∙ get_or-append-add (lefts_of fs) (rights_of fs) i 0
      ∙ get_or-map (λ (f : Frame). f.right) fs i silence

-- ---- a part between two others

module _ (a v b : List ℕ) (n k : ℕ) (la : length a ≡ n) (lv : length v ≡ k) where
  pub part_mid : part (a ++ (v ++ b)) n k ≡ v
  part_mid = ap (take k) (drop_at a (v ++ b) n la) ∙ take_at v b k lv

  pub paste_mid : (w : List ℕ) → length w ≡ k → paste (a ++ (v ++ b)) n w k ≡ a ++ (w ++ b)
  paste_mid w lw =
      ap (λ (l : List ℕ). l ++ take k w ++ drop (n + k) (a ++ (v ++ b))) (take_at a (v ++ b) n la)
      ∙ ap (λ (l : List ℕ). a ++ l ++ drop (n + k) (a ++ (v ++ b))) (take_all k w (omega arith))
      ∙ ap (λ (l : List ℕ). a ++ w ++ l) (sym (drop-drop k n (a ++ (v ++ b))) ∙ ap (drop k) (drop_at a (v ++ b) n la) ∙ drop_at v b k lv)
      ∙ append_assoc a w b

  pub get_mid : (j : ℕ) → j < k → get_or (a ++ (v ++ b)) (n + j) 0 ≡ get_or v j 0
  get_mid j h =
      ap (λ (m : ℕ). get_or (a ++ (v ++ b)) (m + j) 0) (sym la) ∙ get_or-append-add a (v ++ b) j 0 ∙ get_or-append v b 0 j (omega arith)

-- ---- cells in their order

-- node k's cell, from what the theory keeps of it
abbrev pub cell_held : Parsed → ℕ → blocks.Cell Frame State → Cell
cell_held p k d = record { state = d.state; samples = samples_of (channels_of (kind_at p k)) d.samples }

pub record LongCell (p : Parsed) (k : ℕ) (d : blocks.Cell Frame State) : Type 0 where
  pub samples : length d.samples ≡ p.size
  pub line : length d.state.line ≡ line_of (kind_at p k)

abbrev pub Long : Parsed → Cells → Type 0
Long p c = (k : ℕ) → LongCell p k (c k)

pub values_long : (p : Parsed) (k : ℕ) (d : blocks.Cell Frame State) → LongCell p k d → length (values_of (cell_held p k d)) ≡ cell_size p.size (kind_at p k)
values_long p k d h =
    omega (arith, length_values (cell_held p k d), samples_length (kind_at p k) d.samples p.size h.samples, h.line)

module _ (p : Parsed) where
  pub shown_agree : (c d : Cells) (m : ℕ) → ((j : ℕ) → j < m → c j ≡ d j) → shown_to p c m ≡ shown_to p d m
  shown_agree c d m h = joined_agree m _ _ (λ j l. ap (λ (x : blocks.Cell Frame State). values_of (cell_held p j x)) (h j l))

  -- what stands after node j's cell is the same whatever stands in it
  shown_split : (c : Cells) (j m : ℕ) → j < m
      → (rest : List ℕ) × ((d : blocks.Cell Frame State) → shown_to p (put c j d) m ≡ shown_to p c j ++ (values_of (cell_held p j d) ++ rest))
  shown_split c j zero h = absurd (omega arith)
  shown_split c j (suc m) h = go (ℕ_discrete j m) (shown_split c j m)
    where
      Split : ℕ → Type 0
      Split n = (rest : List ℕ) × ((d : blocks.Cell Frame State) → shown_to p (put c j d) n ≡ shown_to p c j ++ (values_of (cell_held p j d) ++ rest))

      last : (j ≡ m) → (d : blocks.Cell Frame State) → shown_to p (put c j d) (suc m) ≡ shown_to p c j ++ (values_of (cell_held p j d) ++ [])
      last e d =
          let front : shown_to p (put c j d) m ≡ shown_to p c j =
          shown_agree (put c j d) c m (λ i l. put_other c j d (λ q. omega arith)) ∙ ap (shown_to p c) (sym e) in
          let cell : values_of (cell_held p m (put c j d m)) ≡ values_of (cell_held p j d) ++ [] =
          ap (λ (x : blocks.Cell Frame State). values_of (cell_held p m x)) (put_same c j d (sym e))
          ∙ ap (λ (n : ℕ). values_of (cell_held p n d)) (sym e) ∙ sym (append-nil (values_of (cell_held p j d))) in
          λ i. front i ++ cell i

      go : Dec (j ≡ m) → (j < m → Split m) → Split (suc m)
      go (yes e) ih = ([], last e)
      go (no n) ih =
          let s = ih (omega arith) in (
            s.0 ++ values_of (cell_in p c m),
            λ d.
                ap (λ (x : blocks.Cell Frame State). shown_to p (put c j d) m ++ values_of (cell_held p m x)) (put_other c j d (λ q. n (sym q)))
                ∙ ap (λ (l : List ℕ). l ++ values_of (cell_in p c m)) (s.1 d)
                ∙ append_assoc (shown_to p c j) (values_of (cell_held p j d) ++ s.0) (values_of (cell_in p c m))
                ∙ ap (λ (l : List ℕ). shown_to p c j ++ l) (append_assoc (values_of (cell_held p j d)) s.0 (values_of (cell_in p c m))),
          )

  put_own : (c : Cells) (k j : ℕ) → put c k (c k) j ≡ c j
  put_own c k j = go (ℕ_discrete j k)
    where
      go : Dec (j ≡ k) → put c k (c k) j ≡ c j
      go (yes e) = put_same c k (c k) e ∙ ap c (sym e)
      go (no n) = put_other c k (c k) n

  -- ---- where cells start

  cells_suc : (N : ℕ) (ns : List NodeRecord) (k : ℕ) (z : NodeRecord) → k < length ns
      → cells_of N (take (suc k) ns) ≡ cells_of N (take k ns) + cell_size N (get_or ns k z).kind
  cells_suc N [] k z h = absurd (omega arith)
  cells_suc N (r ∷ ns) zero z h = omega arith
  cells_suc N (r ∷ ns) (suc k) z h = omega (arith, cells_suc N ns k z (omega arith))

  module _ (c : Cells) (long : Long p c) where
    shown_to_long : (m : ℕ) → m ≤ length p.nodes → length (shown_to p c m) ≡ cells_of p.size (take m p.nodes)
    shown_to_long zero h = refl
    shown_to_long (suc m) h =
        length-append (shown_to p c m) (values_of (cell_in p c m))
        ∙ omega (arith, shown_to_long m (omega arith), values_long p m (c m) (long m), cells_suc p.size p.nodes m blank h)

    pub shown_long : length (shown p c) ≡ cells_of p.size p.nodes
    shown_long = shown_to_long (length p.nodes) (omega arith) ∙ ap (cells_of p.size) (take-length p.nodes)

    -- the memory around node k's cell
    pub record Around (k : ℕ) : Type 0 where
      pub before : List ℕ
      pub after : List ℕ
      pub start : length before ≡ (node_at p k).cell
      pub now : shown p c ≡ before ++ (values_of (cell_in p c k) ++ after)
      pub then : (d : blocks.Cell Frame State) → shown p (put c k d) ≡ before ++ (values_of (cell_held p k d) ++ after)

    pub around : Fine p → (k : ℕ) → k < length p.nodes → Around k
    around fine k h =
        let s = shown_split c k (length p.nodes) h in
        record {
          before = shown_to p c k;
          after = s.0;
          start = shown_to_long k (omega arith) ∙ sym (fine.nodes k h).cell;
          now = sym (shown_agree (put c k (c k)) c (length p.nodes) (λ j l. put_own c k j)) ∙ s.1 (c k);
          then = s.1;
        }

-- ---- a cell in place

module _ (p : Parsed) (fine : Fine p) (c : Cells) (long : Long p c) (k : ℕ) (there : k < length p.nodes) where
  abbrev size : ℕ
  size = cell_size p.size (kind_at p k)

  abbrev frames : List Frame
  frames = (c k).samples

  pub shown_at : (j : ℕ) → j < cell_size p.size (kind_at p k) → get_or (shown p c) ((node_at p k).cell + j) 0 ≡ get_or (values_of (cell_in p c k)) j 0
  shown_at j h =
      let a = around p c long fine k there in
      ap (λ (l : List ℕ). get_or l ((node_at p k).cell + j) 0) a.now
      ∙ get_mid a.before (values_of (cell_in p c k)) a.after (node_at p k).cell size a.start (values_long p k (c k) (long k)) j h

  pub shown_part : part (shown p c) (node_at p k).cell (cell_size p.size (kind_at p k)) ≡ values_of (cell_in p c k)
  shown_part =
      let a = around p c long fine k there in
      ap (λ (l : List ℕ). part l (node_at p k).cell size) a.now
      ∙ part_mid a.before (values_of (cell_in p c k)) a.after (node_at p k).cell size a.start (values_long p k (c k) (long k))

  pub paste_shown : (d : blocks.Cell Frame State) → LongCell p k d
      → paste (shown p c) (node_at p k).cell (values_of (cell_held p k d)) (cell_size p.size (kind_at p k)) ≡ shown p (put c k d)
  paste_shown d ld =
      let a = around p c long fine k there in
      ap (λ (l : List ℕ). paste l (node_at p k).cell (values_of (cell_held p k d)) size) a.now
      ∙ paste_mid a.before (values_of (cell_in p c k)) a.after (node_at p k).cell size a.start (values_long p k (c k) (long k))
      (values_of (cell_held p k d)) (values_long p k d ld)
      ∙ sym (a.then d)

  -- a sample of the cell
  shown_sample : (i : ℕ) → i < p.size * channels_of (kind_at p k)
      → get_or (shown p c) ((node_at p k).cell + (samples_from + i)) 0 ≡ get_or (cell_in p c k).samples i 0
  shown_sample i h =
      shown_at (samples_from + i) (omega arith)
      ∙ get_sample (cell_in p c k) i (omega (arith, samples_length (kind_at p k) frames p.size (long k).samples))

  -- the places from which a block run reads: channel 0, and what the destination's channel 1 reads
  pub shown_left : (i : ℕ) → i < p.size → get_or (shown p c) (left_start (node_at p k) + i) 0 ≡ (get_or (c k).samples i silence).left
  shown_left i h =
      let e : (node_at p k).cell + samples_from + i ≡ (node_at p k).cell + (samples_from + i) = omega arith in
      let some : i < p.size * channels_of (kind_at p k) = below (eqb (channels_of (kind_at p k)) 2) refl in
      ap (λ (n : ℕ). get_or (shown p c) n 0) e ∙ shown_sample i some ∙ samples_left (kind_at p k) frames p.size (long k).samples i h
    where
      below : (b : Bool) → eqb (channels_of (kind_at p k)) 2 ≡ b → i < p.size * channels_of (kind_at p k)
      below true e = rw (channels_are (kind_at p k) true e) (omega arith)
      below false e = rw (channels_are (kind_at p k) false e) (omega arith)

  pub shown_right : (i : ℕ) → i < p.size
      → get_or (shown p c) (right_start p.size (node_at p k) + i) 0 ≡ right_sample p k (get_or (c k).samples i silence)
  shown_right i h = go (eqb (channels_of (kind_at p k)) 2) refl
    where
      go : (b : Bool) → eqb (channels_of (kind_at p k)) 2 ≡ b
          → get_or (shown p c) (right_start p.size (node_at p k) + i) 0 ≡ right_sample p k (get_or (c k).samples i silence)
      go true q =
          let two : channels_of (kind_at p k) ≡ 2 = channels_are (kind_at p k) true q in
          let start : p.size * ((node_at p k).channels - 1) ≡ p.size =
          ap (λ (n : ℕ). p.size * (n - 1)) ((fine.nodes k there).channels ∙ two) ∙ omega arith in
          let all : p.size * channels_of (kind_at p k) ≡ p.size + p.size = ap (λ (n : ℕ). p.size * n) two ∙ omega arith in
          let e : right_start p.size (node_at p k) + i ≡ (node_at p k).cell + (samples_from + (p.size + i)) = omega arith in
          ap (λ (n : ℕ). get_or (shown p c) n 0) e ∙ shown_sample (p.size + i) (omega arith)
          ∙ samples_right (kind_at p k) frames p.size (long k).samples i q
          ∙ ap (λ (b : Bool). cond b (get_or frames i silence).right (get_or frames i silence).left) (sym q)
      go false q =
          let one : channels_of (kind_at p k) ≡ 1 = channels_are (kind_at p k) false q in
          let start : p.size * ((node_at p k).channels - 1) ≡ 0 =
          ap (λ (n : ℕ). p.size * (n - 1)) ((fine.nodes k there).channels ∙ one) ∙ omega arith in
          let e : right_start p.size (node_at p k) + i ≡ left_start (node_at p k) + i = omega arith in
          ap (λ (n : ℕ). get_or (shown p c) n 0) e ∙ shown_left i h
          ∙ ap (λ (b : Bool). cond b (get_or frames i silence).right (get_or frames i silence).left) (sym q)
