use Rattle.naive_base.proofs.Words.{arith, to_z-of_z}
use Rattle.naive_rrule.proofs.RuleTimes.{end_shortened, no_rule_time}
use Rattle.naive_rrule.proofs.recurrence.last_within.Goals as goal

pub returns-then-has_no_time-clause-same : goal.returns-then-has_no_time-clause-same
returns-then-has_no_time-clause-same c l time = grind (arith, to_z-of_z, no_rule_time)

pub returns-then-has_no_position-clause-same : goal.returns-then-has_no_position-clause-same
returns-then-has_no_position-clause-same c l time = absurd (c.has_no_position.ensures c.if-has_no_position.true l time.occasion time.position)

pub returns-clause-same : goal.returns-clause-same
returns-clause-same c = grind (arith, to_z-of_z, end_shortened)
