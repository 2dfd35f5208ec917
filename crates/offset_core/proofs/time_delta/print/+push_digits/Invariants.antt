use Rattle.offset_core.proofs.time_delta.print.+push_digits.Given as goal

abbrev pub decreases-push_digits : goal.decreases-push_digits
decreases-push_digits l = l.count
