use Rattle.offset_core.proofs.time_delta.print.+push_decimal.Given as goal

abbrev pub decreases-push_decimal : goal.decreases-push_decimal
decreases-push_decimal l = l.number
