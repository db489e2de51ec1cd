-- The plate's facts: counted, walked and judged by computation, at every block size from 1 to 128 and for any finite floats in the four nodes
-- of the mix. Assumes nothing.
use Rattle.std.proofs.Common.{Option, Some, None}
use Rattle.std.specs.Option.{is_some}
use Prim.Native.Nat.{ℕ, ◌+◌, ◌*◌, ◌≤◌, ◌<◌}
use mathlib.Core.Path.{◌≡◌, refl, sym, ap, ◌∙◌}
use mathlib.Core.Bool.{Bool, true, ◌&&◌, false≢true, and-eq-true_iff}
use mathlib.Core.List.{List, [], ◌∷◌, map}
use native.Mathlib.Omega.{arith}
use borrow.Author.Tests.{ltb-true, lt-ltb}
use lib.ListN.{length}
use lib.Dec.{T, ltb}
use lib.Ieee.{Float, binary32, of_bits, to_bits, fits, round, mul, div, eq, lt, le}
use lib.Ieee.Fits.{sub-fits}
use Rattle.values.specs.Floors.{f1, finite_f, within, floor_of}
use Rattle.leaves.specs.Lengths.{samples_of, delay_of, all_pass_of, place_of}
use Rattle.values.proofs.Patterns.{pattern_lt, pattern_finite}
use Rattle.kinds.specs.Kind.{line_of, rule_of}
use Rattle.values.specs.Floats.{finite_bits}
use Rattle.kinds.specs.declared.kind.NodeKind.{NodeKind}
use Rattle.reading.specs.Order.{Wire, wire}
use Rattle.records.specs.Answer.{answer}
use Rattle.boards.specs.Board.{whole, memory_length, node_fits, wire_fits}
use Rattle.boards.specs.Judge.{check_sources, check_six, judge_of}
use Rattle.graph.specs.Late.{is_late, late_wires}
use Rattle.sources.specs.Sources.{distinct}
use Rattle.graph.specs.Tail.{endless, tail_by, tail_of}
use Rattle.graph.specs.Visit.{visiting_list}
use Rattle.records.specs.Write.{NodeCard, Card}
use Rattle.boards.specs.Obeys.{kind_of, as_read as parsed_of, NodeObeys, WireObeys, SourcesObey, Obeys, no_node, no_wire}
use Rattle.boards.proofs.RoundObeys.{from_each, nodes_told, wires_told}
use Rattle.boards.proofs.RoundRule.{kind_told}
use Rattle.boards.proofs.RoundRun.{NodeFits, NodesFit, WireFits, WiresFit}
use Rattle.boards.proofs.RoundSix.{Free, six_told}
use Rattle.boards.proofs.Round.{judge_written}
use Rattle.plate_board.specs.Plate.{plate_nodes, plate_wires, plate_card, dry_of}
use Rattle.plate_board.specs.Facts.{all_pass_lines, milliseconds, plate_list, PlateFacts, WrittenPlate}
use Rattle.plate_board.proofs.Written.{answer_of, bytes_of, plate_long, size_in, written}
use Rattle.plate_board.proofs.Dry.{dry_finite}

-- ---- what a card must obey, as tests that antt computes

abbrev node_test : ℕ → ℕ → NodeCard → Bool
node_test i lines d =
    (ltb d.type 65536 && (ltb d.n 4294967296 && ltb d.f 4294967296)) && (is_some (rule_of d.type d.n d.f) && node_fits i lines (kind_of d))

abbrev nodes_test : ℕ → ℕ → List NodeCard → Bool
nodes_test i lines [] = true
nodes_test i lines (d ∷ ds) = node_test i lines d && nodes_test (i + 1) (lines + line_of (kind_of d)) ds

abbrev wire_test : ℕ → ℕ → Wire → Bool
wire_test i j w = (ltb w.source 65536 && ltb w.target 65536) && wire_fits i j w.source w.target

abbrev wires_test : ℕ → ℕ → List Wire → Bool
wires_test i j [] = true
wires_test i j (w ∷ ws) = wire_test i j w && wires_test i (j + 1) ws

both : (a b : Bool) → (a && b) ≡ true → (a ≡ true) × (b ≡ true)
both a b = (and-eq-true_iff a b).0

is_kind_lem : (d : NodeCard) → is_some (rule_of d.type d.n d.f) ≡ true → rule_of d.type d.n d.f ≡ Some (kind_of d)
is_kind_lem d = go (rule_of d.type d.n d.f) refl
  where
    go : (r : Option NodeKind) → rule_of d.type d.n d.f ≡ r → is_some r ≡ true → rule_of d.type d.n d.f ≡ Some (kind_of d)
    go (Some k) e h = e ∙ ap Some (sym (kind_told d k e).3)
    go None e h = absurd (false≢true h)

node_passes : (i lines : ℕ) (d : NodeCard) → node_test i lines d ≡ true → NodeFits i lines d
node_passes i lines d h =
    let two = both (ltb d.type 65536 && (ltb d.n 4294967296 && ltb d.f 4294967296)) _ h in
    let small = both (ltb d.type 65536) _ two.0 in
    let fields = both (ltb d.n 4294967296) _ small.1 in
    let rule = both (is_some (rule_of d.type d.n d.f)) _ two.1 in
    record {
      type_small = ltb-true _ _ small.0;
      n_small = ltb-true _ _ fields.0;
      f_small = ltb-true _ _ fields.1;
      rule = is_kind_lem d rule.0;
      fits = rule.1;
    }

nodes_pass : (i lines : ℕ) (ds : List NodeCard) → nodes_test i lines ds ≡ true → NodesFit i lines ds
nodes_pass i lines [] h = tt
nodes_pass i lines (d ∷ ds) h =
    let two = both (node_test i lines d) _ h in
    (node_passes i lines d two.0, nodes_pass (i + 1) (lines + line_of (kind_of d)) ds two.1)

wire_passes : (i j : ℕ) (w : Wire) → wire_test i j w ≡ true → WireFits i j w
wire_passes i j w h =
    let two = both (ltb w.source 65536 && ltb w.target 65536) _ h in
    let small = both (ltb w.source 65536) _ two.0 in
    record { source_small = ltb-true _ _ small.0; target_small = ltb-true _ _ small.1; fits = two.1 }

wires_pass : (i j : ℕ) (ws : List Wire) → wires_test i j ws ≡ true → WiresFit i j ws
wires_pass i j [] h = tt
wires_pass i j (w ∷ ws) h = let two = both (wire_test i j w) _ h in (wire_passes i j w two.0, wires_pass i (j + 1) ws two.1)

-- a card that passes them, and check 6, obeys
card_obeys : (c : Card) → 1 ≤ c.size → c.size ≤ 128 → nodes_test 0 0 c.nodes ≡ true → wires_test (length c.nodes) 0 c.wires ≡ true
    → check_six (parsed_of c) ≡ whole (parsed_of c) → Obeys c
card_obeys c least most ns ws six =
    let nodes = nodes_told c.nodes 0 0 (nodes_pass 0 0 c.nodes ns) (omega arith) (omega arith) in
    let wires = wires_told (length c.nodes) c.wires 0 0 (wires_pass (length c.nodes) 0 c.wires ws) (omega arith) in
    let last = six_told c nodes.0 (parsed_of c) six in
    record {
      least_size = least;
      most_size = most;
      some_node = last.0.some_node;
      few_nodes = omega arith;
      nodes = from_each NodeObeys no_node c.nodes nodes.0;
      few_lines = omega arith;
      few_wires = omega arith;
      wires = from_each (λ (j : ℕ). WireObeys (length c.nodes)) no_wire c.wires wires.0;
      sources = from_each (SourcesObey c.wires) no_node c.nodes last.0.sources;
      input_pass = last.0.input_pass;
      input_free = from_each (Free c.input) no_wire c.wires last.0.input_free;
    }

-- ---- the plate

delay_long : delay_of (of_bits binary32 0x4248_0000) ≡ Some 2205
unfolding delay_of within samples_of floor_of round mul div eq lt le of_bits
delay_long = refl

module _ (N mix dry : ℕ) where
  abbrev plate : Card
  plate = plate_card N mix dry

  wires_right : wires_test (length plate.nodes) 0 plate.wires ≡ true
  unfolding plate_nodes plate_wires
  wires_right = refl

  six_right : check_six (parsed_of plate) ≡ whole (parsed_of plate)
  unfolding plate_nodes plate_wires kind_of check_sources distinct
  six_right = refl

  memory_long : memory_length (parsed_of plate) ≡ 236392 + 212 * N
  unfolding plate_nodes kind_of
  memory_long = omega arith

  tail_endless : tail_of (parsed_of plate) ≡ endless
  unfolding plate_nodes plate_wires kind_of tail_of tail_by visiting_list late_wires is_late
  tail_endless = refl

  walked : visiting_list plate_wires ≡ plate_list
  unfolding plate_wires visiting_list
  walked = refl

  late_one : late_wires (visiting_list plate_wires) plate_wires ≡ wire 14 15 ∷ []
  unfolding plate_wires visiting_list late_wires is_late
  late_one = refl

  asked : map (λ (ms : ℕ). place_of (all_pass_of (of_bits binary32 ms))) milliseconds ≡ all_pass_lines (plate_nodes mix dry)
  unfolding plate_nodes all_pass_of within samples_of floor_of round mul div eq lt le of_bits
  asked = refl

  module _ (mix-fits : mix < 4294967296) (mix-finite : finite_bits mix ≡ true) (dry-fits : dry < 4294967296) (dry_finite : finite_bits dry ≡ true) where
    nodes_right : nodes_test 0 0 plate.nodes ≡ true
    unfolding plate_nodes kind_of rule_of of_bits within le
    nodes_right = rw (lt-ltb mix 4294967296 mix-fits, mix-finite, lt-ltb dry 4294967296 dry-fits, dry_finite)

    module _ (least : 1 ≤ N) (most : N ≤ 128) where
      plate_obeys : Obeys plate
      plate_obeys = card_obeys plate least most nodes_right wires_right six_right

      pub plate_facts : PlateFacts N mix dry
      unfolding plate_nodes plate_wires
      plate_facts = record {
        node_count = refl;
        wire_count = refl;
        byte_count = plate_long N mix dry;
        all_passes = refl;
        all_passes_asked = asked;
        delay_asked = delay_long;
        repeats = refl;
        list = walked;
        late = late_one;
        tail = tail_endless;
        obeys = plate_obeys;
        judged = judge_written plate plate_obeys ∙ ap (answer 0) memory_long;
      }

-- ---- the written plate

pub plate_written : (N : ℕ) (mix : Float) (b : List ℕ) → 1 ≤ N → N ≤ 128 → T (fits binary32 mix) → finite_f mix ≡ true → length b ≡ 1270 → WrittenPlate N mix b
plate_written N mix b least most mix-fits number long =
    let e = written N mix b (size_in N least most) number long in
    let dry-fits = sub-fits binary32 f1 mix in
    let facts =
    plate_facts N (to_bits binary32 mix) (to_bits binary32 (dry_of mix)) (pattern_lt mix mix-fits) (pattern_finite mix mix-fits ∙ number)
    (pattern_lt (dry_of mix) dry-fits) (pattern_finite (dry_of mix) dry-fits ∙ dry_finite mix mix-fits number) least most in
    record {
      answered = ap answer_of e;
      bytes = ap bytes_of e;
      facts = facts;
      accepted = ap judge_of (ap bytes_of e) ∙ facts.judged;
    }
