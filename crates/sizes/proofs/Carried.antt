-- The reading of one board is a reading of another, of another block size: the samples are the same, and so is what is known of each node but
-- of a delay that late wires lead into, whose line is corrected.
--     Alike                how a node of the two boards may differ
--     ReadsToo, carried    the reading on the other board
-- Assumes nothing.
use Prim.Native.Nat.{ℕ, zero, suc, ◌+◌, ◌-◌, ◌≤◌, ◌<◌}
use mathlib.Core.Path.{◌≡◌, refl, sym, ap, ◌∙◌}
use mathlib.Core.Bool.{Bool, true, false, cond}
use mathlib.Core.List.{List, [], ◌∷◌, map}
use native.Mathlib.Omega.{arith}
use lib.Dec.{eqb, ltb, leb}
use lib.ListN.{length, get_or, length-map}
use lib.Ieee.{Float, nan, binary32, of_bits, to_bits}
use borrow.Author.Tests.{leb-true, ltb-true}
use Rattle.values.specs.Floors.{zero_f}
use Rattle.kinds.specs.Kind.{sources_fit, channels_of}
use Rattle.kinds.specs.Rule.{Brought, Frame, keeps}
use Rattle.kinds.specs.History.{Heard, xs, fresh_heard, sample_heard, heard_after}
use Rattle.kinds.specs.declared.kind.NodeKind.{NodeKind}
use Rattle.kinds.specs.declared.kind.NodeKind.TheVariants.{Delay}
use Rattle.kinds.specs.declared.kind.NodeRecord.{NodeRecord}
use Rattle.kinds.proofs.Arms.{kinds}
use Rattle.kinds.proofs.Unread.{unread, heard_sample_unread, heard_unread}
use Rattle.reading.specs.Table.{mem}
use Rattle.reading.specs.Order.{sources, late}
use Rattle.reading.specs.Effect.{Effect, inputs}
use Rattle.reading.specs.Time.{Timed}
use Rattle.reading.proofs.Table.{map_agree}
use Rattle.boards.specs.Board.{Parsed, blank}
use Rattle.sources.specs.Sources.{distinct_sources, second_source}
use Rattle.boards.proofs.RoundSources.{mem_distinct}
use Rattle.memory.specs.Memory.{kind_at, listed}
use Rattle.memory.specs.Fine.{Fine}
use Rattle.samples.specs.Reading.{Fixed, mono, silence, reached, right_sample, end, input_at, told_in, told_at, ago_n, brings, brought_to, held_at, IsReading}
use Rattle.samples.proofs.DemandAfter.{Blocks}
use Rattle.samples.proofs.Told.{told_xs, told_at_xs}
use Rattle.memory.proofs.FineBoard.{lists, listed_there}
use Rattle.samples.proofs.ShownRun.{second_source_lem}
use Rattle.sizes.specs.Sizes.{join, Event, events}
use Rattle.sizes.proofs.Streams.{length-join, input_joined, same_samples, told_now, told_by, told_start}
use Rattle.sizes.proofs.Line.{again, taken, same_line, delayed, has_taken}

-- ---- what stands at a node's place

keeps_by : (d : NodeKind) (b c : Brought) → length b.left ≡ length c.left → keeps d b ≡ keeps d c
unfolding keeps
keeps_by d b c e =
    kinds (λ j. keeps j b ≡ keeps j c)
    (ap (λ (n : ℕ). eqb n 0) e, refl, refl, refl, λ f. refl, λ f. refl, λ n. refl, λ n f. refl, λ f. refl, λ f. refl) d

kept-is : (d : NodeKind) (h : Heard) (held : Frame) (b : Brought) → keeps d b ≡ true → sample_heard d h held b ≡ held
unfolding sample_heard
kept-is d h held b e = rw e

other_held : (d : NodeKind) (h : Heard) (x y : Frame) (b : Brought) → keeps d b ≡ false → sample_heard d h x b ≡ sample_heard d h y b
unfolding sample_heard
other_held d h x y b e = rw e

-- ---- two boards

-- a board of another block size and other nodes, with the same input node and wires
abbrev pub resized : Parsed → ℕ → List NodeRecord → Parsed
resized p M ns = record { size = M; input = p.input; nodes = ns; wires = p.wires }

-- no wire into node j is late
abbrev pub OnTime : Parsed → ℕ → Type 0
OnTime p j = (a : ℕ) → mem a (sources p.wires j) ≡ true → late (listed p) a j ≡ false

-- a delay whose one wire in is late; block and line together are as long on both boards
pub record Corrected (p q : Parsed) (j : ℕ) : Type 0 where
  pub source : ℕ
  pub one_in : sources p.wires j ≡ source ∷ []
  pub is_late_lem : late (listed p) source j ≡ true
  pub n : ℕ
  pub m : ℕ
  pub delay : kind_at p j ≡ Delay (suc n)
  pub delay_there : kind_at q j ≡ Delay (suc m)
  pub as_long : p.size + suc n ≡ q.size + suc m

-- node j of two boards of the same wires
pub data Alike (p q : Parsed) (j : ℕ) : Type 0 where
  same : kind_at q j ≡ kind_at p j → OnTime p j → Alike p q j
  corrected : Corrected p q j → Alike p q j

-- the samples s, of a reading of the calls es on p, are those of a reading of the calls fs on q too, and both are as long
pub record ReadsToo (p q : Parsed) (es fs : List (Effect Fixed ℕ ℕ)) (s : Timed Frame) : Type 0 where
  pub known : Timed Heard
  pub reads : IsReading q fs s known
  pub same_end : end p es ≡ end q fs

alike_channels : (p q : Parsed) (j : ℕ) → Alike p q j → channels_of (kind_at p j) ≡ channels_of (kind_at q j)
alike_channels p q j (same e h) = ap channels_of (sym e)
alike_channels p q j (corrected c) = ap channels_of c.delay ∙ sym (ap channels_of c.delay_there)

-- messages leave what a node has taken, at first nothing
told_none : (x : Parsed) (es : List (Effect Fixed ℕ ℕ)) (j : ℕ) → xs (told_in x es 0 j (fresh_heard (kind_at x j))) ≡ []
unfolding fresh_heard
told_none x es j = told_xs es 0 j (fresh_heard (kind_at x j))

module _ (p : Parsed) (fine : Fine p) (M : ℕ) (ns : List NodeRecord) (least : 1 ≤ M)
    (alike : (j : ℕ) → reached p j ≡ true → Alike p (resized p M ns) j) where
  -- the other board
  abbrev q : Parsed
  q = resized p M ns

  -- ---- what wires bring, where none is late

  module _ (s : Timed Frame) (t j : ℕ) (r : reached p j ≡ true) (on_time : OnTime p j) where
    abbrev once : List ℕ
    once = distinct_sources p.wires j

    brings_same : (b : ℕ) → mem b (sources p.wires j) ≡ true → brings p s t j b ≡ brings q s t j b
    brings_same b e = let l = on_time b e in rw l

    is_source : (b : ℕ) → mem b once ≡ true → mem b (sources p.wires j) ≡ true
    is_source b e = sym (mem_distinct b (sources p.wires j)) ∙ e

    right_once : (b : ℕ) → mem b once ≡ true → right_sample p b (brings p s t j b) ≡ right_sample q b (brings q s t j b)
    right_once b e =
        let channels = alike_channels p q b (alike b ((lists p fine).closed j b r (is_source b e))) in
        λ i. cond (eqb (channels i) 2) (brings_same b (is_source b e) i).right (brings_same b (is_source b e) i).left

    second_by : (b : Bool) → ltb 1 (length once) ≡ b
        → cond b (of_bits binary32 (brings p s t j (second_source p.wires j)).left) nan
        ≡ cond b (of_bits binary32 (brings q s t j (second_source p.wires j)).left) nan
    second_by true e =
        ap (λ (x : Frame). of_bits binary32 x.left)
        (brings_same (second_source p.wires j) (second_source_lem p.wires j (ltb-true 1 (length once) e)))
    second_by false e = refl

    two_by : (f : ℕ → Frame) (x : Float) → cond (ltb 1 (length (map (λ b. of_bits binary32 (f b).left) once))) x nan ≡ cond (ltb 1 (length once)) x nan
    two_by f x = ap (λ (c : ℕ). cond (ltb 1 c) x nan) (length-map once (λ b. of_bits binary32 (f b).left))

    brought_same : unread (brought_to p s t j) ≡ unread (brought_to q s t j)
    brought_same =
        let ls = map_agree (λ b. of_bits binary32 (brings p s t j b).left) (λ b. of_bits binary32 (brings q s t j b).left) once
        (λ b e. ap (λ (x : Frame). of_bits binary32 x.left) (brings_same b (is_source b e))) in
        let rs = map_agree (λ b. of_bits binary32 (right_sample p b (brings p s t j b))) (λ b. of_bits binary32 (right_sample q b (brings q s t j b))) once
        (λ b e. ap (of_bits binary32) (right_once b e)) in
        let second = two_by (brings p s t j) _ ∙ second_by (ltb 1 (length once)) refl ∙ sym (two_by (brings q s t j) _) in
        λ i. record { left = ls i; right = rs i; second = second i }

  -- ---- the reading

  module _ (es fs : List (Effect Fixed ℕ ℕ)) (blocks : Blocks p.size (inputs es)) (blocks' : Blocks M (inputs fs)) (brought : events es ≡ events fs)
      (s : Timed Frame) (u : Timed Heard) (f : IsReading p es s u) where
    same_stream : join (inputs es) ≡ join (inputs fs)
    same_stream = same_samples es fs brought

    same_end : end p es ≡ end q fs
    same_end = sym (length-join p.size (inputs es) blocks) ∙ ap length same_stream ∙ length-join M (inputs fs) blocks'

    same_input : (t : ℕ) → t < end p es → input_at p es t ≡ input_at q fs t
    same_input t h =
        input_joined p.size fine.least_size (inputs es) blocks t h
        ∙ ap (λ (l : List ℕ). get_or l t 0) same_stream
        ∙ sym (input_joined M least (inputs fs) blocks' t (omega (arith, same_end)))

    same_first : (j : ℕ) (h : Heard) → told_in p es 0 j h ≡ told_in q fs 0 j h
    same_first j h =
        told_start p.size fine.least_size es blocks j h ∙ ap (λ (l : List Event). told_now l 0 j h) brought ∙ sym (told_start M least fs blocks' j h)

    same_told : (t j : ℕ) (h : Heard) → told_at p es t j h ≡ told_at q fs t j h
    same_told t j h =
        told_by p.size fine.least_size es blocks t j h ∙ ap (λ (l : List Event). told_now l t j h) brought ∙ sym (told_by M least fs blocks' t j h)

    -- what is known of each node on the other board
    abbrev known : Timed Heard
    known zero j = told_in q fs 0 j (fresh_heard (kind_at q j))
    known (suc t) j = told_at q fs (suc t) j (heard_after (kind_at q j) (known t j) (brought_to q s t j))

    -- ---- a pass that keeps its block and is not the input node is silent

    module _ (j : ℕ) (r : reached p j ≡ true) (no-input : eqb j p.input ≡ false)
        (holds : (t : ℕ) → keeps (kind_at p j) (brought_to p s t j) ≡ true) where
      silent_below : (c t : ℕ) → t < c → t < end p es → s t j ≡ silence
      silent_below zero t b h = absurd (omega arith)
      silent_below (suc c) t b h =
          f.sample t j h r
          ∙ kept-is (kind_at p j) (u t j) (held_at p es s t j) (brought_to p s t j) (holds t)
          ∙ ap (λ (b : Bool). cond b (mono (input_at p es t)) (ago_n p s t j)) no-input
          ∙ go (leb p.size t) refl (λ l. silent_below c (t - p.size) (omega (arith, l, fine.least_size)) (omega arith))
        where
          go : (b : Bool) → leb p.size t ≡ b → (p.size ≤ t → s (t - p.size) j ≡ silence) → cond b (s (t - p.size) j) silence ≡ silence
          go true e ih = ih (leb-true p.size t e)
          go false e ih = refl

      silent_earlier : (x : Parsed) (t : ℕ) → t < end p es → ago_n x s t j ≡ silence
      silent_earlier x t h = go (leb x.size t)
        where
          go : (b : Bool) → cond b (s (t - x.size) j) silence ≡ silence
          go true = silent_below (suc (t - x.size)) (t - x.size) (omega arith) (omega arith)
          go false = refl

    -- ---- a node that is the same

    module _ (j : ℕ) (r : reached p j ≡ true) (kind : kind_at q j ≡ kind_at p j) (on_time : OnTime p j) where
      abbrev d : NodeKind
      d = kind_at p j

      same_known : (t : ℕ) → t ≤ end p es → known t j ≡ u t j
      same_known zero h = sym (f.first j r ∙ same_first j (fresh_heard d) ∙ ap (λ (x : NodeKind). told_in q fs 0 j (fresh_heard x)) (sym kind))
      same_known (suc t) h =
          ap (λ (x : Heard). told_at q fs (suc t) j (heard_after (kind_at q j) x (brought_to q s t j))) (same_known t (omega arith))
          ∙ (λ i. told_at q fs (suc t) j (heard_after (kind i) (u t j) (brought_to q s t j)))
          ∙ sym (same_told (suc t) j (heard_after d (u t j) (brought_to q s t j)))
          ∙ ap (told_at p es (suc t) j)
          (heard_unread d (brought_to q s t j) (u t j)
          ∙ ap (heard_after d (u t j)) (sym (brought_same s t j r on_time))
          ∙ sym (heard_unread d (brought_to p s t j) (u t j)))
          ∙ sym (f.next t j (omega arith) r)

      left_long : (x : Parsed) (t : ℕ) → length (map (λ b. of_bits binary32 (brings x s t j b).left) (distinct_sources p.wires j)) ≡ length (distinct_sources p.wires j)
      left_long x t = length-map (distinct_sources p.wires j) (λ b. of_bits binary32 (brings x s t j b).left)

      fits : sources_fit d (length (distinct_sources p.wires j)) ≡ true
      fits = fine.formed.sources_fit_lem blank j (listed_there p fine j r)

      same_held : (t : ℕ) → t < end p es → (b : Bool) → keeps d (brought_to p s t j) ≡ b
          → sample_heard d (u t j) (held_at p es s t j) (brought_to p s t j) ≡ sample_heard d (u t j) (held_at q fs s t j) (brought_to p s t j)
      same_held t h true e = ap (λ (x : Frame). sample_heard d (u t j) x (brought_to p s t j)) (go (eqb j p.input) refl)
        where
          go : (b : Bool) → eqb j p.input ≡ b
              → cond b (mono (input_at p es t)) (ago_n p s t j) ≡ cond b (mono (input_at q fs t)) (ago_n q s t j)
          go true i = ap mono (same_input t h)
          go false i =
              let holds : (x : ℕ) → keeps d (brought_to p s x j) ≡ true = λ x. keeps_by d (brought_to p s x j) (brought_to p s t j) (left_long p x ∙ sym (left_long p t)) ∙ e in
              silent_earlier j r i holds p t h ∙ sym (silent_earlier j r i holds q t h)
      same_held t h false e = other_held d (u t j) (held_at p es s t j) (held_at q fs s t j) (brought_to p s t j) e

      sample_same : (t : ℕ) → t < end p es → s t j ≡ sample_heard (kind_at q j) (known t j) (held_at q fs s t j) (brought_to q s t j)
      sample_same t h =
          let held : Frame = held_at q fs s t j in
          f.sample t j h r
          ∙ same_held t h (keeps d (brought_to p s t j)) refl
          ∙ heard_sample_unread d (brought_to p s t j) (ap (sources_fit d) (left_long p t) ∙ fits) (u t j) held
          ∙ ap (sample_heard d (u t j) held) (brought_same s t j r on_time)
          ∙ sym (heard_sample_unread d (brought_to q s t j) (ap (sources_fit d) (left_long q t) ∙ fits) (u t j) held)
          ∙ (λ i. sample_heard (sym kind i) (sym (same_known t (omega arith)) i) held (brought_to q s t j))

    -- ---- a delay that is corrected

    module _ (j : ℕ) (r : reached p j ≡ true) (c : Corrected p q j) where
      sample_corrected : (t : ℕ) → t < end p es → s t j ≡ sample_heard (kind_at q j) (known t j) (held_at q fs s t j) (brought_to q s t j)
      sample_corrected t h =
          let w : ℕ → ℕ = λ x. (s x c.source).left in
          let here : xs (u t j) ≡ taken p.size w t =
          has_taken p s c.source j c.one_in c.is_late_lem (kind_at p j) (λ x. u x j) (end p es) (ap xs (f.first j r) ∙ told_none p es j)
          (λ x l. ap xs (f.next x j l r) ∙ told_at_xs p es (suc x) j _) t (omega arith) in
          let there : xs (known t j) ≡ taken M w t =
          has_taken q s c.source j c.one_in c.is_late_lem (kind_at q j) (λ x. known x j) (end p es) (told_none q fs j)
          (λ x l. told_at_xs q fs (suc x) j _) t (omega arith) in
          let line : get_or (xs (u t j)) c.n 0 ≡ get_or (xs (known t j)) c.m 0 =
          ap (λ (l : List ℕ). get_or l c.n 0) here ∙ same_line p.size M w c.n c.m t c.as_long ∙ ap (λ (l : List ℕ). get_or l c.m 0) (sym there) in
          f.sample t j h r
          ∙ ap (λ (d : NodeKind). sample_heard d (u t j) (held_at p es s t j) (brought_to p s t j)) c.delay
          ∙ delayed c.n (u t j) (held_at p es s t j) (brought_to p s t j)
          ∙ (λ i. record { left = again (line i); right = to_bits binary32 zero_f })
          ∙ sym (delayed c.m (known t j) (held_at q fs s t j) (brought_to q s t j))
          ∙ ap (λ (d : NodeKind). sample_heard d (known t j) (held_at q fs s t j) (brought_to q s t j)) (sym c.delay_there)

    -- ---- every node

    sample_by_lem : (j : ℕ) → reached p j ≡ true → Alike p q j → (t : ℕ) → t < end p es
        → s t j ≡ sample_heard (kind_at q j) (known t j) (held_at q fs s t j) (brought_to q s t j)
    sample_by_lem j r (same e on_time) = sample_same j r e on_time
    sample_by_lem j r (corrected c) = sample_corrected j r c

    pub carried : ReadsToo p q es fs s
    carried = record {
      known = known;
      reads = record {
        first = λ j r. refl;
        sample = λ t j h r. sample_by_lem j r (alike j r) t (omega (arith, same_end));
        next = λ t j h r. refl;
      };
      same_end = same_end;
    }
