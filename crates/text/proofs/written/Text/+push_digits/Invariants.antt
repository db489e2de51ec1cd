use Rattle.text.proofs.written.Text.+push_digits.Given as goal

abbrev pub decreases-push_digits : goal.decreases-push_digits
decreases-push_digits g l = l.k
