-- The loops over the nodes and over the wires: what holds after so many records, one record more, and the part's end. Assumes nothing.
use Rattle.std.specs.Prelude.{Option, Some, None, Result, Ok, Err}
use Prim.Native.Nat.{ℕ, suc, ◌+◌, ◌*◌, ◌≤◌, ◌<◌}
use mathlib.Core.Path.{◌≡◌, refl, sym, ap, subst, ◌∙◌}
use mathlib.Core.List.{List, [], ◌∷◌, ◌++◌}
use native.Mathlib.Decide.{ℕ_discrete}
use native.Mathlib.Numerals.{add-one}
use native.Mathlib.Omega.{arith}
use lib.ListN.{length, get_or, take, set, length-set}
use lib.Seq.{length-take-le, get_or-set_same, get_or-set_other}
use Rattle.std.proofs.lemmas.List.{take_more_set}
use Rattle.values.specs.Bytes.{u16_at}
use Rattle.kinds.specs.Kind.{line_of, channels_of}
use Rattle.kinds.specs.declared.kind.Bounds.{Bounds as NodeBounds}
use Rattle.kinds.specs.declared.kind.NodeKind.{NodeKind}
use Rattle.kinds.specs.declared.kind.NodeRecord.{NodeRecord}
use Rattle.reading.specs.Order.{Wire}
use Rattle.records.specs.Record.{found_at}
use Rattle.boards.specs.Board.{Parsed, Progress, going, refused, blank, headed, lines_of, cells_of, end_by, step_of, run}
use Rattle.boards.specs.Wires.{Joined, wires_of}
use Rattle.boards.specs.BoardParts.{noded, wired, node_read, no_bounds, Bounds, Noded, NodesRead, Wired}
use Rattle.records.specs.declared.answer.Answer.{Answer}
use Rattle.boards.proofs.NodeSums.{lines_snoc, cells_snoc, samples_few}
use Rattle.boards.proofs.Run.{run_next}
use Rattle.boards.proofs.Wiring.{wires_length, wires_stored, joined_more}
use Rattle.boards.proofs.RecordSteps.{NodeStep, node_step, WireHere, WireEnds}

-- ---- the nodes

pub record NodesSoFar (s : List ℕ) (N : ℕ) (nodes : List NodeRecord) (bounds : List NodeBounds) (count lines values next : ℕ) : Type 0 where
  pub reads : (i : ℕ) → run count s (going 8 2 (headed N i)) ≡ going next 2 (noded N i (take count nodes))
  pub long : length nodes ≡ 64
  pub bounds_long : length bounds ≡ 64
  pub few : count ≤ 64
  pub bound : (i : ℕ) → i < count → Bounds (get_or nodes i blank) (get_or bounds i no_bounds)
  pub lines_sum : lines ≡ lines_of (take count nodes)
  pub few_lines : lines ≤ 262144
  pub values_sum : values ≡ cells_of N (take count nodes)
  pub few_values : values ≤ 259 * count + lines
  pub next_is : next ≡ 8 + 14 * count
  pub inside : next ≤ length s

pub nodes_start : (s : List ℕ) (N : ℕ) (nodes : List NodeRecord) (bounds : List NodeBounds) → length nodes ≡ 64 → length bounds ≡ 64 → 8 ≤ length s
    → NodesSoFar s N nodes bounds 0 0 0 8
unfolding run
nodes_start s N nodes bounds l bl h = record {
  reads = λ i. refl;
  long = l;
  bounds_long = bl;
  few = omega arith;
  bound = λ i b. absurd (omega arith);
  lines_sum = refl;
  few_lines = omega arith;
  values_sum = refl;
  few_values = omega arith;
  next_is = refl;
  inside = h;
}

module _ (s : List ℕ) (N : ℕ) (nodes : List NodeRecord) (bounds : List NodeBounds) (count lines values next : ℕ) (h : NodesSoFar s N nodes bounds count lines values next) where
  counted : length (take count nodes) ≡ count
  counted = length-take-le count nodes (omega (arith, h.long, h.few))

  -- what the record at `next` says
  pub node_here : {x r : Result (Option NodeKind) Answer} → x ≡ node_read s next count lines (found_at s next 2) → x ≡ r → NodeStep s next count lines r
  node_here e q = subst (NodeStep s next count lines) (sym e ∙ q) (node_step s next count lines)

  -- one step more
  stepped : (i : ℕ) → run (suc count) s (going 8 2 (headed N i)) ≡ step_of s (going next 2 (noded N i (take count nodes)))
  stepped i = run_next s count (going 8 2 (headed N i)) ∙ ap (step_of s) (h.reads i)

  module _ (k : NodeKind) (here : NodeStep s next count lines (Ok (Some k))) where
    last : ℕ → NodeRecord
    last v = record { kind = k; channels = channels_of k; cell = v }

    more : List NodeRecord
    more = set nodes count (last values)

    nodes_filled : take (count + 1) more ≡ take count nodes ++ (last values ∷ [])
    unfolding more
    nodes_filled = take_more_set nodes count (last values) (omega (arith, h.long, here.1.room))

    more_reads : (i : ℕ) → run (count + 1) s (going 8 2 (headed N i)) ≡ going (next + 14) 2 (noded N i (take (count + 1) more))
    unfolding last
    more_reads i =
        ap (λ (n : ℕ). run n s (going 8 2 (headed N i))) (add-one count) ∙ stepped i ∙ here.0 (noded N i (take count nodes)) counted (sym h.lines_sum)
        ∙ ap (λ (v : ℕ). going (next + 14) 2 (noded N i (take count nodes ++ (last v ∷ [])))) (sym h.values_sum)
        ∙ ap (λ (ns : List NodeRecord). going (next + 14) 2 (noded N i ns)) (sym nodes_filled)

    -- the new node's bounds, and those of the nodes before it
    more_bounds : (own : NodeBounds) → Bounds (last values) own → (i : ℕ) → i < count + 1 → Bounds (get_or more i blank) (get_or (set bounds count own) i no_bounds)
    unfolding last more
    more_bounds own its i b = go (ℕ_discrete i count)
      where
        go : Dec (i ≡ count) → Bounds (get_or (set nodes count (last values)) i blank) (get_or (set bounds count own) i no_bounds)
        go (yes e) =
            rw (
              e,
              get_or-set_same nodes count (last values) blank (omega (arith, h.long, here.1.room)),
              get_or-set_same bounds count own no_bounds (omega (arith, h.bounds_long, here.1.room)),
            )
            its
        go (no other) = rw (get_or-set_other nodes count i (last values) blank other, get_or-set_other bounds count i own no_bounds other) (h.bound i (omega arith))

    pub nodes_more : N ≤ 128 → (own : NodeBounds) → Bounds (record { kind = k; channels = channels_of k; cell = values }) own
        → NodesSoFar s N (set nodes count (record { kind = k; channels = channels_of k; cell = values })) (set bounds count own) (count + 1) (lines + line_of k) (values + (3 + N * channels_of k + line_of k)) (next + 14)
    unfolding last more
    nodes_more small own its = record {
      reads = more_reads;
      long = simp length-set h.long;
      bounds_long = simp length-set h.bounds_long;
      few = omega (arith, here.1.room);
      bound = more_bounds own its;
      lines_sum = rw nodes_filled (omega (arith, h.lines_sum, lines_snoc (take count nodes) (last values)));
      few_lines = here.1.few_lines;
      values_sum = rw nodes_filled (omega (arith, h.values_sum, cells_snoc N (take count nodes) (last values)));
      few_values = omega (arith, h.few_values, samples_few N k small);
      next_is = omega (arith, h.next_is);
      inside = here.2;
    }

  -- the nodes that are read, whatever comes then
  noded_so : (few : count ≤ 64) (long : length nodes ≡ 64) (wide : length bounds ≡ 64) (v : Parsed → Progress) → ((i : ℕ) → run (suc count) s (going 8 2 (headed N i)) ≡ v (noded N i (take count nodes)))
      → Noded s N (record { count = count; nodes = nodes; bounds = bounds; values = values; next = next; few = few; long = long; wide = wide }) v
  noded_so few long wide v reads = record {
    reads = reads;
    long = h.long;
    few = h.few;
    bound = h.bound;
    sum = h.values_sum;
    small = omega (arith, h.few_values, h.few, h.few_lines);
    next_is = h.next_is;
    inside = h.inside;
  }

  -- the next part follows
  pub nodes_ended : (few : count ≤ 64) (long : length nodes ≡ 64) (wide : length bounds ≡ 64) → NodeStep s next count lines (Ok None)
      → NodesRead s N (record { count = count; nodes = nodes; bounds = bounds; values = values; next = next; few = few; long = long; wide = wide }) (Ok tt)
  nodes_ended few long wide here =
      noded_so few long wide (λ p. step_of s (going next 3 p)) (λ i. stepped i ∙ here (noded N i (take count nodes)) counted (sym h.lines_sum))

  -- a refusal follows
  pub nodes_refused : (few : count ≤ 64) (long : length nodes ≡ 64) (wide : length bounds ≡ 64) (a : Answer) → NodeStep s next count lines (Err a)
      → NodesRead s N (record { count = count; nodes = nodes; bounds = bounds; values = values; next = next; few = few; long = long; wide = wide }) (Err a)
  nodes_refused few long wide a here =
      (here.0, noded_so few long wide (λ _. refused a.number a.place) (λ i. stepped i ∙ here.1 (noded N i (take count nodes)) counted (sym h.lines_sum)))

-- ---- the wires

pub record WiresSoFar (s : List ℕ) (start i : ℕ) (list : List (ℕ × ℕ)) (count next : ℕ) : Type 0 where
  pub reads : (p : Parsed) → length p.nodes ≡ i → p.wires ≡ [] → run count s (going start 3 p) ≡ going next 3 (wired p (wires_of list count))
  pub long : length list ≡ 128
  pub few : count ≤ 128
  pub joined : Joined i list count
  pub next_is : next ≡ start + 8 * count
  pub inside : next ≤ length s

pub wires_start : (s : List ℕ) (start i : ℕ) (list : List (ℕ × ℕ)) → length list ≡ 128 → start ≤ length s → WiresSoFar s start i list 0 start
unfolding run
wires_start s start i list long h = record {
  reads = λ p _ e. ap (λ (ws : List Wire). going start 3 (wired p ws)) e;
  long = long;
  few = omega arith;
  joined = λ j b. absurd (omega arith);
  next_is = omega arith;
  inside = h;
}

module _ (s : List ℕ) (start i : ℕ) (list : List (ℕ × ℕ)) (count next : ℕ) (h : WiresSoFar s start i list count next) where
  so_far : length (wires_of list count) ≡ count
  so_far = wires_length list count (omega (arith, h.long, h.few))

  reached : (p : Parsed) → length p.nodes ≡ i → p.wires ≡ [] → run (suc count) s (going start 3 p) ≡ step_of s (going next 3 (wired p (wires_of list count)))
  reached p n e = run_next s count (going start 3 p) ∙ ap (step_of s) (h.reads p n e)

  pub wires_more : (a t : ℕ) → a ≡ u16_at s (next + 4) → t ≡ u16_at s (next + 6) → WireHere s next i count → WiresSoFar s start i (set list count (a, t)) (count + 1) (next + 8)
  wires_more a t ea et here =
      let room : count < length list = omega (arith, h.long, here.1.room) in
      record {
        reads = λ b n e.
            ap (λ (m : ℕ). run m s (going start 3 b)) (add-one count) ∙ reached b n e ∙ rw (ea, et) (here.0 (wired b (wires_of list count)) n so_far)
            ∙ ap (λ (ws : List Wire). going (next + 8) 3 (wired b ws)) (sym (wires_stored list count a t room));
        long = simp length-set h.long;
        few = omega (arith, here.1.room);
        joined = joined_more i list count a t room (rw ea here.1.obeys.source_there) (rw et here.1.obeys.target_there) h.joined;
        next_is = omega (arith, h.next_is);
        inside = here.2;
      }

  -- the end record follows
  pub wires_ended : (few : count ≤ 128) (long : length list ≡ 128) (joined : Joined 64 list count) → WireEnds s next i count (Ok tt)
      → Wired s start i (record { list = list; count = count; few = few; long = long; joined = joined }) next (end_by s next)
  wires_ended few long joined here = record {
    reads = λ p m z. reached p m z ∙ here (wired p (wires_of list count)) m so_far;
    long = h.long;
    few = h.few;
    joined = h.joined;
    next_is = h.next_is;
    inside = h.inside;
  }

  -- a refusal follows
  pub wires_refused : (few : count ≤ 128) (long : length list ≡ 128) (joined : Joined 64 list count) (a : Answer) → WireEnds s next i count (Err a)
      → (0 < a.number) × Wired s start i (record { list = list; count = count; few = few; long = long; joined = joined }) a.place (λ _. refused a.number a.place)
  wires_refused few long joined a here = (
    here.0,
    record {
      reads = λ p m z. reached p m z ∙ here.2 (wired p (wires_of list count)) m so_far;
      long = h.long;
      few = h.few;
      joined = h.joined;
      next_is = here.1 ∙ h.next_is;
      inside = rw here.1 h.inside;
    },
  )
