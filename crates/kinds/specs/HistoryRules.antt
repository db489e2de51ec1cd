-- The rules of a board's nodes twice, on what memory holds and on what the reading knows, as the theory of block run and reading takes them:
-- of each node its type, and what its wires bring, of the frames that they bring in wire order. Definitions only; that both do the same is
-- in proofs/HistoryRules.antt.
use Rattle.std.specs.Prelude.{ℕ, List}
use Rattle.reading.specs.Board.{Rules}
use Rattle.kinds.specs.Rule.{Brought, Frame, State, with_number, sample_by, state_by}
use Rattle.kinds.specs.Cell.{fresh_cell}
use Rattle.kinds.specs.History.{Heard, fresh_heard, set_number, sample_heard, heard_after}
use Rattle.kinds.specs.declared.kind.NodeKind.{NodeKind}

module _ (kinds : ℕ → NodeKind) (brought : ℕ → List Frame → Brought) where
  -- on what memory holds, at block size N
  abbrev pub memory_rules : ℕ → Rules Frame State ℕ
  memory_rules N = record {
    fresh = λ k. (fresh_cell N (kinds k)).state;
    step = λ k i s held b. (sample_by (kinds k) s held (brought k b), state_by (kinds k) s (brought k b));
    set = λ k v s. with_number s v;
  }

  -- on what the reading knows
  abbrev pub reading_rules : Rules Frame Heard ℕ
  reading_rules = record {
    fresh = λ k. fresh_heard (kinds k);
    step = λ k i h held b. (sample_heard (kinds k) h held (brought k b), heard_after (kinds k) h (brought k b));
    set = λ k v h. set_number v h;
  }
