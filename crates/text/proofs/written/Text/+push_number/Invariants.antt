use Rattle.text.proofs.written.Text.+push_number.Given as goal

abbrev pub decreases-push_number : goal.decreases-push_number
decreases-push_number g l = l.v
