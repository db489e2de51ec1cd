-- Laws of the mix message: an accepted one is its four number messages, one after the other (`mix_four`), and after it the four cells hold
-- mix and 1 − mix (`mix_holds`). Assumes nothing.
use Prim.Native.Nat.{ℕ, ◌+◌, ◌<◌}
use mathlib.Core.Path.{◌≡◌, refl, sym, ap, ◌∙◌, subst}
use mathlib.Core.Bool.{true, cond, ◌&&◌}
use mathlib.Core.List.{List}
use native.Mathlib.Omega.{arith}
use borrow.Author.Tests.{lt-ltb}
use lib.Dec.{T, eqb}
use lib.Ieee.{Float, binary32, to_bits, fits}
use lib.Ieee.Fits.{sub-fits}
use lib.ListN.{length, get_or, length-set}
use lib.Seq.{get_or-set_same, get_or-set_other}
use Rattle.values.specs.Floors.{f1, finite_f}
use Rattle.values.specs.Words.{words, unwords, length-words, words-unwords, length-unwords, Bytes}
use Rattle.kinds.specs.Kind.{number_index}
use Rattle.kinds.specs.Cell.{takes_number, value_fits}
use Rattle.kinds.specs.declared.kind.NodeKind.{NodeKind}
use Rattle.kinds.proofs.Rows.{row_laws}
use Rattle.records.specs.Answer.{answer}
use Rattle.boards.specs.Board.{Parsed, Progress, going, refused, whole, memory_length}
use Rattle.boards.specs.Judge.{read_board}
use Rattle.records.specs.declared.answer.Answer.{Answer}
use Rattle.memory.specs.Memory.{passed, node_at, kind_at}
use Rattle.memory.specs.Calls.{and_then, check_memory, change_by, check_number, check_message, put_number, message_of}
use Rattle.memory.specs.Fine.{Fine}
use Rattle.boards.proofs.Ending.{Ended, board_ends}
use Rattle.memory.proofs.FineBoard.{fine_board}
use Rattle.memory.proofs.CallCells.{cell_in, cell_apart}
use Rattle.memory.proofs.CallBy.{change_passes}
use Rattle.memory.proofs.CallLaws.{Whole, Judged, memory_passed, memory_told}
use Rattle.memory.proofs.CallMessage.{set_long, set_judged}
use Rattle.plate_board.specs.Plate.{dry_of}
use Rattle.mixing.specs.Mix.{is_mul, check_mul, check_finite, check_mix, check_mixed, after, set_mix, mix_of, IsFour, HoldsMix}
use Rattle.plate_board.proofs.Written.{answer_of, bytes_of}
use Rattle.plate_board.proofs.Dry.{dry_finite}
use Rattle.mixing.proofs.Mixing.{MulAt, MixTold, mix_told}

-- ---- a mul takes every finite number

mul_takes : (k : NodeKind) → is_mul k ≡ true → (takes_number k ≡ true) × ((x : Float) → finite_f x ≡ true → value_fits k x ≡ true)
unfolding takes_number value_fits
mul_takes k e = (((row_laws k).mul e f1).0, λ x n. ((row_laws k).mul e x).1 ∙ n)

-- ---- one number message to a mul

module _ (s : List ℕ) (p : Parsed) (reads : read_board s ≡ whole p) (fine : Fine p) where
  -- memory that every check up to 8 passes, and its words
  record Ready (m ws : List ℕ) : Type 0 where
    is : words m ≡ ws
    size : length m ≡ memory_length p
    judged : Judged p ws

  checked : (m ws : List ℕ) → Ready m ws → (a : Answer) → check_memory p m a ≡ a
  checked m ws r a = memory_passed p m a r.size (subst (Judged p) (sym r.is) r.judged)

  module _ (m ws : List ℕ) (r : Ready m ws) (k : ℕ) (mul : MulAt p k) (x : Float) (fit : T (fits binary32 x)) (number : finite_f x ≡ true) where
    all : Whole p ws
    all = ap length (sym r.is) ∙ omega (arith, length-words m, r.size)

    sent : message_of s m k x ≡ (passed, unwords (put_number p k x ws))
    unfolding message_of
    sent =
        let is = mul_takes (kind_at p k) mul.1 in
        let takes : check_number p k x ≡ passed =
        λ i. cond (lt-ltb k (length p.nodes) mul.0 i && is.0 i) (cond (is.1 x number i) passed (answer 12 k)) (answer 11 k) in
        let checks : check_message p m k x ≡ passed = checked m ws r (check_number p k x) ∙ takes in
        ap (change_by m (λ q. check_message q m k x) (λ q. put_number q k x (words m))) reads
        ∙ (λ i. cond (eqb (checks i).number 0) (passed, unwords (put_number p k x (r.is i))) (checks i, m))

    ready : Ready (unwords (put_number p k x ws)) (put_number p k x ws)
    ready = record {
      is = words-unwords (put_number p k x ws);
      size = length-unwords (put_number p k x ws) ∙ omega (arith, set_long p fine ws all k x mul.0, all);
      judged = set_judged p fine ws all k x mul.0 fit ((mul_takes (kind_at p k) mul.1).1 x number) r.judged;
    }

  -- ---- the four

  module _ (m : List ℕ) (mix : Float) (memory : (length m ≡ memory_length p) × Judged p (words m)) (told : MixTold p mix) (fit : T (fits binary32 mix)) where
    abbrev dry : Float
    dry = dry_of mix

    dry_fit : T (fits binary32 dry)
    dry_fit = sub-fits binary32 f1 mix

    dry_number : finite_f dry ≡ true
    dry_number = dry_finite mix fit told.number

    start : Ready m (words m)
    start = record { is = refl; size = memory.0; judged = memory.1 }

    mul_passed : (k : ℕ) → MulAt p k → check_mul p k ≡ passed
    mul_passed k h = λ i. cond (lt-ltb k (length p.nodes) h.0 i && h.1 i) passed (answer 11 k)

    mixed : mix_of s m mix ≡ (passed, unwords (set_mix p mix (words m)))
    unfolding mix_of
    mixed =
        let number : check_finite mix ≡ passed = λ i. cond (told.number i) passed (answer 12 41) in
        let a = mul_passed 41 told.left_wet in
        let b = mul_passed 47 told.right_wet in
        let c = mul_passed 43 told.left_dry in
        let d = mul_passed 49 told.right_dry in
        let checks : check_mixed p m mix ≡ passed =
        checked m (words m) start (check_mix p mix) ∙ (λ i. and_then (a i) (and_then (b i) (and_then (c i) (and_then (d i) (number i))))) in
        ap (change_by m (λ q. check_mixed q m mix) (λ q. set_mix q mix (words m))) reads
        ∙ (λ i. cond (eqb (checks i).number 0) (passed, unwords (set_mix p mix (words m))) (checks i, m))

    four : IsFour s m mix
    four =
        let ws₁ = put_number p 41 mix (words m) in
        let ws₂ = put_number p 47 mix ws₁ in
        let ws₃ = put_number p 43 dry ws₂ in
        let sent₁ = sent m (words m) start 41 told.left_wet mix fit told.number in
        let ready₁ = ready m (words m) start 41 told.left_wet mix fit told.number in
        let sent₂ = sent (unwords ws₁) ws₁ ready₁ 47 told.right_wet mix fit told.number in
        let ready₂ = ready (unwords ws₁) ws₁ ready₁ 47 told.right_wet mix fit told.number in
        let sent₃ = sent (unwords ws₂) ws₂ ready₂ 43 told.left_dry dry dry_fit dry_number in
        let ready₃ = ready (unwords ws₂) ws₂ ready₂ 43 told.left_dry dry dry_fit dry_number in
        let sent₄ = sent (unwords ws₃) ws₃ ready₃ 49 told.right_dry dry dry_fit dry_number in
        let m₁ : after s m 41 mix ≡ unwords ws₁ = ap bytes_of sent₁ in
        let m₂ : after s (after s m 41 mix) 47 mix ≡ unwords ws₂ = ap (λ (n : List ℕ). after s n 47 mix) m₁ ∙ ap bytes_of sent₂ in
        let m₃ : after s (after s (after s m 41 mix) 47 mix) 43 dry ≡ unwords ws₃ = ap (λ (n : List ℕ). after s n 43 dry) m₂ ∙ ap bytes_of sent₃ in
        record {
          first = ap answer_of sent₁;
          second = ap (λ (n : List ℕ). answer_of (message_of s n 47 mix)) m₁ ∙ ap answer_of sent₂;
          third = ap (λ (n : List ℕ). answer_of (message_of s n 43 dry)) m₂ ∙ ap answer_of sent₃;
          fourth = ap (λ (n : List ℕ). message_of s n 49 dry) m₃ ∙ sent₄ ∙ sym mixed;
        }

    -- ---- the four cells

    -- two of the nodes, the first before the second, have their numbers at different places
    apart : (j k : ℕ) → j < k → k < length p.nodes → (node_at p j).cell + number_index ≡ (node_at p k).cell + number_index → ⊥
    apart j k h there e = omega (arith, cell_apart p fine j k h there)

    inside : (k : ℕ) → k < length p.nodes → (node_at p k).cell + number_index < length (words m)
    inside k there = omega (arith, cell_in p fine k there, all m (words m) start 41 told.left_wet mix fit told.number)

    -- node k's number is set, and what others then set leaves it
    set_here : (ws : List ℕ) (k : ℕ) (x : Float) → length ws ≡ length (words m) → k < length p.nodes
        → get_or (put_number p k x ws) ((node_at p k).cell + number_index) 0 ≡ to_bits binary32 x
    set_here ws k x e there = get_or-set_same ws ((node_at p k).cell + number_index) (to_bits binary32 x) 0 (omega (arith, inside k there))

    set_there : (ws : List ℕ) (j k : ℕ) (x : Float) → ((node_at p j).cell + number_index ≡ (node_at p k).cell + number_index → ⊥)
        → get_or (put_number p k x ws) ((node_at p j).cell + number_index) 0 ≡ get_or ws ((node_at p j).cell + number_index) 0
    set_there ws j k x h = get_or-set_other ws ((node_at p k).cell + number_index) ((node_at p j).cell + number_index) (to_bits binary32 x) 0 h

    holds : HoldsMix p mix (set_mix p mix (words m))
    holds =
        let ws₁ = put_number p 41 mix (words m) in
        let ws₂ = put_number p 47 mix ws₁ in
        let ws₃ = put_number p 43 dry ws₂ in
        let long₁ : length ws₁ ≡ length (words m) = length-set (words m) _ _ in
        let long₂ : length ws₂ ≡ length (words m) = length-set ws₁ _ _ ∙ long₁ in
        let long₃ : length ws₃ ≡ length (words m) = length-set ws₂ _ _ ∙ long₂ in
        let a = told.left_wet.0 in
        let b = told.right_wet.0 in
        let c = told.left_dry.0 in
        let d = told.right_dry.0 in
        record {
          left_wet =
              set_there ws₃ 41 49 dry (apart 41 49 (omega arith) d) ∙ set_there ws₂ 41 43 dry (apart 41 43 (omega arith) c)
              ∙ set_there ws₁ 41 47 mix (apart 41 47 (omega arith) b) ∙ set_here (words m) 41 mix refl a;
          right_wet =
              set_there ws₃ 47 49 dry (apart 47 49 (omega arith) d) ∙ set_there ws₂ 47 43 dry (λ e. apart 43 47 (omega arith) b (sym e))
              ∙ set_here ws₁ 47 mix long₁ b;
          left_dry = set_there ws₃ 43 49 dry (apart 43 49 (omega arith) d) ∙ set_here ws₂ 43 dry long₂ c;
          right_dry = set_here ws₃ 49 dry long₃ d;
        }

-- ---- of bytes

-- a board whose mix message is accepted is read whole, and its checks pass
record Told (s m : List ℕ) (mix : Float) : Type 0 where
  parsed : Parsed
  reads : read_board s ≡ whole parsed
  memory : (length m ≡ memory_length parsed) × Judged parsed (words m)
  muls : MixTold parsed mix

told_of : (s m : List ℕ) (mix : Float) → (mix_of s m mix).0.number ≡ 0 → Told s m mix
unfolding mix_of
told_of s m mix = go (read_board s) refl (board_ends s)
  where
    go : (r : Progress) → read_board s ≡ r → Ended r → (change_by m (λ p. check_mixed p m mix) (λ p. set_mix p mix (words m)) r).0.number ≡ 0 → Told s m mix
    go (going at last p) e n z = absurd (omega arith)
    go (refused k w) e n z = absurd (omega arith)
    go (whole p) e n z =
        let told = memory_told p m (check_mix p mix) (change_passes m (λ q. check_mixed q m mix) (λ q. set_mix q mix (words m)) p z) in
        record { parsed = p; reads = e; memory = (told.0, told.1); muls = mix_told p mix told.2 }

pub mix_four : (s m : List ℕ) (mix : Float) → Bytes s → T (fits binary32 mix) → (mix_of s m mix).0.number ≡ 0 → IsFour s m mix
mix_four s m mix small fit z =
    let k = told_of s m mix z in
    four s k.parsed k.reads (fine_board s small k.parsed k.reads) m mix k.memory k.muls fit

pub mix_holds : (s m : List ℕ) (mix : Float) → Bytes s → T (fits binary32 mix) → (mix_of s m mix).0.number ≡ 0
    → (p : Parsed) → read_board s ≡ whole p → HoldsMix p mix (words (mix_of s m mix).1)
mix_holds s m mix small fit z p e =
    let k = told_of s m mix z in
    let q = k.parsed in
    let fine = fine_board s small q k.reads in
    let same : q ≡ p = cc (sym k.reads ∙ e) in
    let left = holds s q k.reads fine m mix k.memory k.muls fit in
    let bytes : (mix_of s m mix).1 ≡ unwords (set_mix q mix (words m)) = ap bytes_of (mixed s q k.reads fine m mix k.memory k.muls fit) in
    subst (λ (x : Parsed). HoldsMix x mix (words (mix_of s m mix).1)) same
    (subst (HoldsMix q mix) (sym (ap words bytes ∙ words-unwords (set_mix q mix (words m)))) left)
