-- A board carried to another block size is accepted, and sounds the same: `settled`, of every answer of `resize`. Assumes nothing.
use Prim.Native.Nat.{ℕ, zero, suc, ◌+◌, ◌*◌, ◌<◌}
use mathlib.Core.Path.{◌≡◌, refl, sym, ap, ◌∙◌}
use mathlib.Core.List.{List, [], ◌∷◌}
use Rattle.std.proofs.Common.{Result, Ok, Err}
use native.Mathlib.Omega.{arith}
use lib.ListN.{set}
use lib.Seq.{sets}
use Rattle.reading.specs.Table.{All}
use Rattle.values.specs.Bytes.{u16_bytes, u32_bytes}
use Rattle.values.specs.Words.{Bytes}
use Rattle.boards.specs.Board.{Parsed, Progress, going, refused, whole}
use Rattle.boards.specs.Judge.{read_board}
use Rattle.resizing.specs.declared.resize.NotCarried.{NotCarried}
use Rattle.resizing.specs.declared.resize.Resized.{Resized}
use Rattle.resizing.specs.declared.resize.Resized.TheVariants.{Same, Size, Line}
use Rattle.sizes.specs.Sizes.{SoundsAs}
use Rattle.resizing.specs.Resize.{plan_by, resized_of, bytes_after}
use Rattle.sizes.specs.Settled.{Apart, line_longer, line_shorter, size_alone, Carried, Settled}
use Rattle.sizes.proofs.Sizes.{one_line_sounds, size_only_sounds, sounds_back}
use Rattle.resizing.proofs.Planning.{Planned, kept, already, size_stored, line_stored, plan_view}
use Rattle.sizes.proofs.Rewritten.{Rewrites, size_rewrites, line_rewrites}

-- ---- the bytes afterwards are bytes

set-bytes : (s : List ℕ) (i v : ℕ) → v < 256 → Bytes s → Bytes (set s i v)
set-bytes [] i v h b k = b k
set-bytes (x ∷ s) zero v h b zero = h
set-bytes (x ∷ s) zero v h b (suc k) = b (suc k)
set-bytes (x ∷ s) (suc i) v h b zero = b 0
set-bytes (x ∷ s) (suc i) v h b (suc k) = set-bytes s i v h (λ j. b (suc j)) k

sets_bytes : (s : List ℕ) (i : ℕ) (vs : List ℕ) → All (λ v. v < 256) vs → Bytes s → Bytes (sets s i vs)
sets_bytes s i [] h b = b
sets_bytes s i (v ∷ vs) h b = sets_bytes (set s i v) (suc i) vs h.1 (set-bytes s i v h.0 b)

after-bytes : (s : List ℕ) (M : ℕ) (r : Result Resized NotCarried) → Bytes s → Bytes (bytes_after s M r)
unfolding bytes_after
after-bytes s M (Ok Same) b = b
after-bytes s M (Ok Size) b = sets_bytes s 4 (u16_bytes M) (omega arith, (omega arith, tt)) b
after-bytes s M (Ok (Line k n m)) b =
    sets_bytes (sets s 4 (u16_bytes M)) (14 * k + 14) (u32_bytes m) (omega arith, (omega arith, (omega arith, (omega arith, tt))))
    (sets_bytes s 4 (u16_bytes M) (omega arith, (omega arith, tt)) b)
after-bytes s M (Err r) b = b

-- ---- boards that are apart as the request says sound the same

apart_sounds : (s s' : List ℕ) → Bytes s → Bytes s' → (p q : Parsed) → read_board s ≡ whole p → read_board s' ≡ whole q → Apart p q → SoundsAs s s' p q
apart_sounds s s' bytes bytes' p q reads reads' (line_longer o) = one_line_sounds s s' bytes bytes' p q reads reads' o
apart_sounds s s' bytes bytes' p q reads reads' (line_shorter o) = sounds_back s' s q p (one_line_sounds s' s bytes' bytes q p reads' reads o)
apart_sounds s s' bytes bytes' p q reads reads' (size_alone o) = size_only_sounds s s' bytes bytes' p q reads reads' o

-- ---- every answer

module _ (s : List ℕ) (bytes : Bytes s) (M : ℕ) (p : Parsed) (reads : read_board s ≡ whole p) where
  rewritten : (r : Result Resized NotCarried) → Rewrites p (bytes_after s M r) M → Carried s (bytes_after s M r) M
  rewritten r w = record {
    before = p;
    after = w.after;
    reads = reads;
    reads_after = w.reads_after;
    at_size = w.at_size;
    apart = w.apart;
    sounds = apart_sounds s (bytes_after s M r) bytes (after-bytes s M r bytes) p w.after reads w.reads_after w.apart;
  }

  by_plan : {r : Result Resized NotCarried} → Planned p M r → Settled s M r
  by_plan kept = tt
  by_plan (already e) = λ x q. let board : x ≡ p = cc in ap (λ (y : Parsed). y.size) board ∙ sym e
  by_plan (size_stored h none) = rewritten (Ok Size) (size_rewrites s bytes p reads M h none)
  by_plan (line_stored k n m h) = rewritten (Ok (Line k n m)) (line_rewrites s bytes p reads M k n m h)

pub settled : (s : List ℕ) → Bytes s → (M : ℕ) → Settled s M (resized_of s M)
unfolding resized_of
settled s bytes M = go (read_board s) refl
  where
    go : (r : Progress) → read_board s ≡ r → Settled s M (plan_by M r)
    go (going at last p) e = tt
    go (refused n w) e = tt
    go (whole p) e = by_plan s bytes M p e (plan_view p M)
