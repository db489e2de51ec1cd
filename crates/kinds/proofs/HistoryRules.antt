-- The rules on what memory holds do as the rules on what the reading knows, for every node of a board.
-- Assumes nothing.
use Prim.Native.Nat.{ℕ}
use mathlib.Core.List.{List}
use Rattle.reading.specs.Encode.{Encodes}
use Rattle.kinds.specs.Rule.{Brought, Frame}
use Rattle.kinds.specs.Node.{LineFits}
use Rattle.kinds.specs.History.{state_of}
use Rattle.kinds.specs.HistoryRules.{memory_rules, reading_rules}
use Rattle.kinds.specs.declared.kind.NodeKind.{NodeKind}
use Rattle.kinds.proofs.Histories.{fresh-heard, sample_heard_lem, state_heard, number-heard}

pub rules_encode : (kinds : ℕ → NodeKind) (brought : ℕ → List Frame → Brought) (N : ℕ) → ((k : ℕ) → LineFits (kinds k))
    → Encodes (memory_rules kinds brought N) (reading_rules kinds brought) (λ k. state_of (kinds k))
rules_encode kinds brought N fit = record {
  fresh = λ k. fresh-heard N (kinds k) (fit k);
  step = λ k i h held b. λ e. (sample_heard_lem (kinds k) (fit k) h held (brought k b) e, state_heard (kinds k) (fit k) h (brought k b) e);
  set = λ k v h. number-heard (kinds k) h v;
}
