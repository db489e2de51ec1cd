-- `judge_run::judge_all`: each turn passes a board.
use Rattle.std.proofs.Common.{length}
use Rattle.judge_run.proofs.judge_all.Given as goal

abbrev pub decreases-loop-board : goal.decreases-loop-board
decreases-loop-board g l = length l.rest
