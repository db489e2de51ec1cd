-- A block run's parts and a number message, on memory that shows cells.
--     reordered            every order of the listed nodes is one of the board's nodes
--     order_shown          the nodes of an order
--     input_shown          the input block
--     left_out, right_out  the output blocks
--     message_shown        a number message
--     put_long, order_long, input_long    the cells keep their lengths
-- Assumes nothing.
use Prim.Native.Nat.{ℕ, zero, suc, ◌+◌, ◌*◌, ◌<◌}
use mathlib.Core.Path.{◌≡◌, refl, sym, ap, subst⁻¹, ◌∙◌}
use mathlib.Core.Bool.{true}
use mathlib.Core.List.{List, [], ◌∷◌, ◌++◌, map, append_assoc}
use native.Mathlib.Omega.{arith}
use native.Mathlib.Decide.{ℕ_discrete}
use lib.Dec.{eqb}
use lib.Ieee.{Float, binary32, to_bits}
use lib.ListN.{length, get_or, set, length-append, length-map}
use lib.Seq.{paste, set_at}
use Rattle.values.specs.Parts.{part}
use Rattle.kinds.specs.Kind.{channels_of, number_index, samples_from}
use Rattle.kinds.specs.Rule.{Frame, State}
use Rattle.kinds.specs.Cell.{values_of}
use Rattle.kinds.specs.declared.kind.NodeKind.{NodeKind}
use Rattle.reading.specs.Table.{put, tab, mem}
use Rattle.reading.specs.Order.{Reorders}
use Rattle.reading.specs.Blocks as blocks
use Rattle.reading.proofs.Table.{put_same, put_other, length_tab, mem-head, or_right}
use Rattle.boards.specs.Board.{Parsed}
use Rattle.memory.specs.Memory.{node_at, kind_at, listed}
use Rattle.running.specs.Run.{run_nodes, put_input}
use Rattle.memory.specs.Calls.{put_number}
use Rattle.samples.specs.Reading.{mono, samples_of}
use Rattle.samples.specs.Instance.{Cells, net_of, memory_rules, cell_in, shown}
use Rattle.memory.specs.Fine.{Fine}
use Rattle.memory.proofs.FineBoard.{listed_there}
use Rattle.samples.proofs.ShownCells.{lefts_of, rights_of, samples_length, part_mid, paste_mid, LongCell, Long, Around, around}
use Rattle.samples.proofs.ShownRun.{run_long, run_shown}

-- an order of nodes of the board
abbrev pub OfBoard : Parsed → List ℕ → Type 0
OfBoard p o = (k : ℕ) → mem k o ≡ true → k < length p.nodes

-- as is every order of the listed nodes
pub reordered : (p : Parsed) → Fine p → (o : List ℕ) → Reorders p.wires (listed p) o → OfBoard p o
reordered p fine o r k e = listed_there p fine k (sym (r.same k) ∙ e)

pub put_long : (p : Parsed) (c : Cells) (k : ℕ) (d : blocks.Cell Frame State) → Long p c → LongCell p k d → Long p (put c k d)
put_long p c k d long h j = go (ℕ_discrete j k)
  where
    go : Dec (j ≡ k) → LongCell p j (put c k d j)
    go (yes e) = subst⁻¹ (LongCell p j) (put_same c k d e) (subst⁻¹ (λ (n : ℕ). LongCell p n d) e h)
    go (no n) = subst⁻¹ (LongCell p j) (put_other c k d n) (long j)

-- ---- the nodes of an order

module _ (p : Parsed) where
  pub order_long : (o : List ℕ) (c : Cells) → Long p c → Long p (blocks.run_nodes (net_of p) (memory_rules p) o c)
  order_long [] c long = long
  order_long (k ∷ o) c long = order_long o (blocks.run_node (net_of p) (memory_rules p) k p.size c) (run_long p k c long p.size)

  pub order_shown : Fine p → (o : List ℕ) → OfBoard p o → (c : Cells) → Long p c
      → run_nodes p o (shown p c) ≡ shown p (blocks.run_nodes (net_of p) (memory_rules p) o c)
  unfolding run_nodes
  order_shown fine [] there c long = refl
  order_shown fine (k ∷ o) there c long =
      ap (run_nodes p o) (run_shown p fine c long k (there k (mem-head k o)))
      ∙ order_shown fine o (λ j e. there j (or_right (eqb j k) e)) (blocks.run_node (net_of p) (memory_rules p) k p.size c) (run_long p k c long p.size)

-- ---- a cell's samples between the values before and after them

regroup : (a v l b : List ℕ) (x y z : ℕ) → a ++ ((x ∷ y ∷ z ∷ (v ++ l)) ++ b) ≡ (a ++ (x ∷ y ∷ z ∷ [])) ++ (v ++ (l ++ b))
regroup a v l b x y z =
    ap (λ (r : List ℕ). a ++ (x ∷ y ∷ z ∷ r)) (append_assoc v l b) ∙ sym (append_assoc a (x ∷ y ∷ z ∷ []) (v ++ (l ++ b)))

module _ (p : Parsed) (fine : Fine p) (c : Cells) (long : Long p c) (k : ℕ) (there : k < length p.nodes) where
  abbrev here : Around p c long k
  here = around p c long fine k there

  abbrev state : State
  state = (c k).state

  -- what stands before node k's samples, and after them
  front : List ℕ
  front = here.before ++ (state.number ∷ state.carry ∷ state.place ∷ [])

  back : List ℕ
  back = state.line ++ here.after

  front_long : length front ≡ (node_at p k).cell + samples_from
  unfolding front
  front_long = length-append here.before (state.number ∷ state.carry ∷ state.place ∷ []) ∙ omega (arith, here.start)

  samples_now : shown p c ≡ front ++ (samples_of (channels_of (kind_at p k)) (c k).samples ++ back)
  unfolding front back values_of
  samples_now = here.now ∙ regroup here.before (cell_in p c k).samples state.line here.after state.number state.carry state.place

  samples_then : (fs : List Frame)
      → shown p (put c k (record { state = (c k).state; samples = fs })) ≡ front ++ (samples_of (channels_of (kind_at p k)) fs ++ back)
  unfolding front back values_of
  samples_then fs =
      here.then (record { state = state; samples = fs })
      ∙ regroup here.before (samples_of (channels_of (kind_at p k)) fs) state.line here.after state.number state.carry state.place

  pub number_shown : (v : ℕ) → set (shown p c) ((node_at p k).cell + number_index) v
      ≡ shown p (put c k (record { state = record { number = v; carry = (c k).state.carry; place = (c k).state.place; line = (c k).state.line }; samples = (c k).samples }))
  unfolding values_of
  number_shown v =
      let rest : List ℕ = state.carry ∷ state.place ∷ ((cell_in p c k).samples ++ state.line) in
      ap (λ (l : List ℕ). set l ((node_at p k).cell + number_index) v) here.now
      ∙ set_at here.before state.number (rest ++ here.after) v ((node_at p k).cell + number_index) (omega (arith, here.start))
      ∙ sym (here.then _)

-- a number message to a node of the board
pub message_shown : (p : Parsed) → Fine p → (c : Cells) → Long p c → (k : ℕ) → k < length p.nodes → (x : Float)
    → put_number p k x (shown p c) ≡ shown p (put c k (record { state = (memory_rules p).set k (to_bits binary32 x) (c k).state; samples = (c k).samples }))
unfolding memory_rules
message_shown p fine c long k there x = number_shown p fine c long k there (to_bits binary32 x)

-- ---- the input block

lefts-mono : (xs : List ℕ) → lefts_of (map mono xs) ≡ xs
lefts-mono [] = refl
lefts-mono (x ∷ xs) = ap (λ (l : List ℕ). x ∷ l) (lefts-mono xs)

-- a list of n entries, place by place
tab_get : {A B : Type 0} (f : A → B) (d : A) (xs : List A) (n : ℕ) → length xs ≡ n → tab n (λ i. f (get_or xs i d)) ≡ map f xs
tab_get f d [] zero e = refl
tab_get f d [] (suc n) e = absurd (omega arith)
tab_get f d (x ∷ xs) zero e = absurd (omega arith)
tab_get {B = B} f d (x ∷ xs) (suc n) e = ap (λ (l : List B). f x ∷ l) (tab_get f d xs n (omega arith))

module _ (p : Parsed) (fine : Fine p) (c : Cells) (long : Long p c) (xs : List ℕ) (whole : length xs ≡ p.size) where
  -- the input node's frames
  abbrev pub frames_of : ℕ → Frame
  frames_of i = mono (get_or xs i 0)

  pub input_long : Long p (blocks.put_input (net_of p) frames_of c)
  input_long =
      put_long p c p.input (record { state = (c p.input).state; samples = tab p.size frames_of }) long
      (record { samples = length_tab p.size frames_of; line = (long p.input).line })

  pub input_shown : put_input p xs (shown p c) ≡ shown p (blocks.put_input (net_of p) frames_of c)
  unfolding put_input
  input_shown =
      let k : ℕ = p.input in
      let t = fine.input_there in
      let a = front p fine c long k t in
      let b = back p fine c long k t in
      let old : List ℕ = samples_of (channels_of (kind_at p k)) (c k).samples in
      let old-long : length old ≡ p.size =
      samples_length (kind_at p k) (c k).samples p.size (long k).samples
      ∙ ap (λ (d : NodeKind). p.size * channels_of d) fine.input_pass ∙ omega arith in
      let new : xs ≡ samples_of (channels_of (kind_at p k)) (map mono xs) =
      sym (ap (λ (d : NodeKind). samples_of (channels_of d) (map mono xs)) fine.input_pass ∙ lefts-mono xs) in
      ap (λ (l : List ℕ). paste l ((node_at p k).cell + samples_from) xs p.size) (samples_now p fine c long k t)
      ∙ paste_mid a old b ((node_at p k).cell + samples_from) p.size (front_long p fine c long k t) old-long xs whole
      ∙ ap (λ (l : List ℕ). a ++ (l ++ b)) new
      ∙ sym (samples_then p fine c long k t (map mono xs))
      ∙ ap (λ (fs : List Frame). shown p (put c k (record { state = (c k).state; samples = fs }))) (sym (tab_get mono 0 xs p.size whole))

-- ---- the output blocks: node 0's channels

module _ (p : Parsed) (fine : Fine p) (c : Cells) (long : Long p c) where
  abbrev a : List ℕ
  a = front p fine c long 0 fine.formed.some_nodes

  abbrev b : List ℕ
  b = back p fine c long 0 fine.formed.some_nodes

  abbrev ls : List ℕ
  ls = lefts_of (c 0).samples

  abbrev rs : List ℕ
  rs = rights_of (c 0).samples

  a_long : length a ≡ samples_from
  a_long = omega (arith, front_long p fine c long 0 fine.formed.some_nodes, (fine.nodes 0 fine.formed.some_nodes).cell)

  both_now : shown p c ≡ a ++ ((ls ++ rs) ++ b)
  both_now =
      samples_now p fine c long 0 fine.formed.some_nodes
      ∙ ap (λ (d : NodeKind). a ++ (samples_of (channels_of d) (c 0).samples ++ b)) fine.destination

  ls_long : length ls ≡ p.size
  ls_long = length-map (c 0).samples (λ (f : Frame). f.left) ∙ (long 0).samples

  rs_long : length rs ≡ p.size
  rs_long = length-map (c 0).samples (λ (f : Frame). f.right) ∙ (long 0).samples

  pub left_out : part (shown p c) samples_from p.size ≡ lefts_of (c 0).samples
  left_out =
      ap (λ (l : List ℕ). part l samples_from p.size) (both_now ∙ ap (λ (l : List ℕ). a ++ l) (append_assoc ls rs b))
      ∙ part_mid a ls (rs ++ b) samples_from p.size a_long ls_long

  pub right_out : part (shown p c) (samples_from + p.size) p.size ≡ rights_of (c 0).samples
  right_out =
      ap (λ (l : List ℕ). part l (samples_from + p.size) p.size) (both_now ∙ ap (λ (l : List ℕ). a ++ l) (append_assoc ls rs b) ∙ sym (append_assoc a ls (rs ++ b)))
      ∙ part_mid (a ++ ls) rs b (samples_from + p.size) p.size (omega (arith, length-append a ls, a_long, ls_long)) rs_long
