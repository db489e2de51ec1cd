-- A board made of a card's lines: the bytes that are written, and the judge's answer. Assumes nothing.
use mathlib.Core.Path.{◌≡◌, refl, sym, ap, subst, ◌∙◌}
use mathlib.Core.List.{List, [], ◌∷◌, ◌++◌}
use mathlib.Core.Bool.{Bool, true, false, cond}
use lib.Dec.{eqb}
use Rattle.std.specs.Prelude.{Result, Ok, Err}
use Rattle.records.specs.Answer.{checked}
use Prim.Native.Nat.{ℕ, ◌+◌, ◌≤◌}
use native.Mathlib.Omega.{arith}
use lib.ListN.{length, take, length-append}
use lib.Seq.{sets, length-take-le}
use Rattle.boards.specs.Judge.{judge_of}
use Rattle.records.specs.Write.{end_bytes}
use Rattle.records.specs.declared.answer.Answer.{Answer}
use Rattle.records.proofs.Stores.{next as then}
use Rattle.text.specs.Words.{lines_of}
use Rattle.text.proofs.Writing.{wrote_sets}
use Rattle.cards.specs.Board.{record_bytes, written, step_of, by_step, Said, made_by, judged_of, card_from, lines_say}
use Rattle.cards.specs.Adding.{Grown, stored, Adds}
use Rattle.card_lines.specs.Line.{said_of}
use Rattle.card_lines.specs.declared.line.Line.{Line}
use Rattle.card_lines.specs.declared.reason.Reason.{Reason}
use Rattle.cards.specs.declared.board.Written.{Written}
use Rattle.cards.specs.declared.board.Wrong.{Wrong}
use Rattle.cards.specs.declared.board.Wrong.TheVariants.{Refused, Bad}

-- the bytes up to the end of what was stored
pub sets_front : (l : List ℕ) (at : ℕ) (vs : List ℕ) → at + length vs ≤ length l → take (at + length vs) (sets l at vs) ≡ take at l ++ vs
sets_front l at vs h = wrote_sets vs l at h

-- a line's record, by what the line is known to say
pub adds-line : {w : Written} {o o' : List ℕ} {r : Result Written Reason} (l l' : Result Line Reason) → l ≡ l' → Adds w (step_of w l') (record_bytes l') o o' r → Adds w (step_of w l) (record_bytes l) o o' r
adds-line {w} {o} {o'} {r} l l' e h = subst (λ (x : Result Line Reason). Adds w (step_of w x) (record_bytes x) o o' r) (sym e) h

-- a record that is refused is not stored
pub refuses : {w : Written} {s : Result Written Reason} {bytes o : List ℕ} {reason : Reason} → s ≡ Err reason → Adds w s bytes o o (Err reason)
refuses {w} {s} {bytes} {o} {reason} e = subst (λ (x : Result Written Reason). Adds w x bytes o o (Err reason)) (sym e) (record { steps = refl; room = tt; grown = tt; puts = refl })

-- ---- the judge's answer

abbrev made_of : ℕ → Result (Unit {0}) Answer → Result ℕ Wrong
made_of size (Ok u) = Ok size
made_of size (Err refusal) = Err (Refused refusal)

by_check : (size : ℕ) (a : Answer) → made_by size a ≡ made_of size (checked a)
by_check size a = pick (eqb a.number 0)
  where
    pick : (b : Bool) → cond b (Ok size) (Err (Refused a)) ≡ made_of size (cond b (Ok tt) (Err a))
    pick true = refl
    pick false = refl

module _ (l : List ℕ) (at : ℕ) (fits : at + 4 ≤ length l) (answer : Answer) (judges : answer ≡ judge_of (take (at + 4) (sets l at end_bytes))) where
  answers : made_by (at + 4) answer ≡ (judged_of (take at l ++ end_bytes)).made
  answers =
      let board = take at l ++ end_bytes in
      let size : at + 4 ≡ length board = omega (arith, length-append (take at l) end_bytes, length-take-le at l (omega arith)) in
      ap (λ (n : ℕ). made_by n answer) size ∙ ap (made_by (length board)) (judges ∙ ap judge_of (sets_front l at end_bytes fits))

  pub board_made : (u : Unit {0}) → Ok u ≡ checked answer → Ok (at + 4) ≡ (judged_of (take at l ++ end_bytes)).made
  board_made u e = ap (made_of (at + 4)) e ∙ sym (by_check (at + 4) answer) ∙ answers

  pub board_refused : (refusal : Answer) → Err refusal ≡ checked answer → Err (Refused refusal) ≡ (judged_of (take at l ++ end_bytes)).made
  board_refused refusal e = ap (made_of (at + 4)) e ∙ sym (by_check (at + 4) answer) ∙ answers

-- ---- the lines, one after the other

-- n lines of a text are read, and `ls` are left: the bytes that are written for those, and what the others say
pub record Partly (text o out : List ℕ) (w : Written) (n : ℕ) (ls : List (List ℕ)) : Type 0 where
  pub bytes : List ℕ
  pub long : length bytes ≡ w.at
  pub same : out ≡ sets o 0 bytes
  pub rest : card_from (lines_of text) n w bytes ls ≡ lines_say (lines_of text)

pub partly_start : (text o : List ℕ) (ls : List (List ℕ)) → ls ≡ lines_of text → Partly text o o (written 0 0 0) 0 ls
partly_start text o ls e = record { bytes = []; long = refl; same = refl; rest = ap (card_from (lines_of text) 0 (written 0 0 0) []) e }

module _ {text o out : List ℕ} {w : Written} {n : ℕ} {before : List (List ℕ)} (p : Partly text o out w n before) where
  -- the rest, by what becomes of its first line
  stepped : (line : List ℕ) (ls : List (List ℕ)) (s : Result Written Reason) → before ≡ line ∷ ls → step_of w (said_of (lines_of text) w.nodes line) ≡ s
      → by_step {A = Said} s (λ next. card_from (lines_of text) (n + 1) next (p.bytes ++ record_bytes (said_of (lines_of text) w.nodes line)) ls) (λ r. record { made = Err (Bad (n + 1) r); bytes = p.bytes }) ≡ lines_say (lines_of text)
  unfolding card_from
  stepped line ls s e f =
      ap (λ (x : Result Written Reason). by_step {A = Said} x (λ next. card_from (lines_of text) (n + 1) next (p.bytes ++ record_bytes (said_of (lines_of text) w.nodes line)) ls) (λ r. record { made = Err (Bad (n + 1) r); bytes = p.bytes })) (sym f)
      ∙ ap (card_from (lines_of text) n w p.bytes) (sym e)
      ∙ p.rest

  module _ (line : List ℕ) (ls : List (List ℕ)) {out' : List ℕ} {r : Result Written Reason} (here : before ≡ line ∷ ls)
      (a : Adds w (step_of w (said_of (lines_of text) w.nodes line)) (record_bytes (said_of (lines_of text) w.nodes line)) out out' r) where
    pub partly_on : (w' : Written) → r ≡ Ok w' → Partly text o out' w' (n + 1) ls
    partly_on w' f =
        let record-bytes = record_bytes (said_of (lines_of text) w.nodes line) in
        let s : step_of w (said_of (lines_of text) w.nodes line) ≡ Ok w' = sym a.steps ∙ f in
        let longer : w'.at ≡ w.at + length record-bytes = subst (Grown w record-bytes) f a.grown in
        record {
          bytes = p.bytes ++ record-bytes;
          long = omega (arith, length-append p.bytes record-bytes, p.long, longer);
          same = then o 0 w.at p.bytes record-bytes (omega (arith, p.long)) p.same (a.puts ∙ ap (λ (x : Result Written Reason). sets out w.at (stored x record-bytes)) s);
          rest = stepped line ls (Ok w') here s;
        }

    pub partly_bad : (reason : Reason) → r ≡ Err reason → (Err (Bad (n + 1) reason) ≡ (lines_say (lines_of text)).made) × (out' ≡ sets o 0 (lines_say (lines_of text)).bytes)
    partly_bad reason f =
        let s : step_of w (said_of (lines_of text) w.nodes line) ≡ Err reason = sym a.steps ∙ f in
        let whole = stepped line ls (Err reason) here s in (
          ap (λ (x : Said). x.made) whole,
          a.puts ∙ ap (λ (x : Result Written Reason). sets out w.at (stored x (record_bytes (said_of (lines_of text) w.nodes line)))) s ∙ p.same ∙ ap (λ (x : Said). sets o 0 x.bytes) whole,
        )

  -- behind the last line
  module _ {out' : List ℕ} (past : before ≡ []) (fits : w.at ≤ length o) (puts : out' ≡ sets out w.at end_bytes) where
    whole : judged_of (p.bytes ++ end_bytes) ≡ lines_say (lines_of text)
    unfolding card_from
    whole = ap (card_from (lines_of text) n w p.bytes) (sym past) ∙ p.rest

    pub partly_answer : (judged_of (take w.at out ++ end_bytes)).made ≡ (lines_say (lines_of text)).made
    partly_answer =
        let size : w.at ≡ 0 + length p.bytes = omega (arith, p.long) in
        let front : take w.at out ≡ p.bytes =
        ap (take w.at) p.same ∙ ap (λ (k : ℕ). take k (sets o 0 p.bytes)) size ∙ sets_front o 0 p.bytes (omega (arith, p.long)) in
        ap (λ (b : List ℕ). (judged_of (b ++ end_bytes)).made) front ∙ ap (λ (x : Said). x.made) whole

    pub partly_bytes : out' ≡ sets o 0 (lines_say (lines_of text)).bytes
    partly_bytes =
        then o 0 w.at p.bytes end_bytes (omega (arith, p.long)) p.same puts ∙ ap (λ (x : Said). sets o 0 x.bytes) whole
