use Rattle.std.proofs.Common.{◌≤◌}
use Rattle.naive_rrule.proofs.empty_rules.common_step.Given as goal

abbrev pub invariant-steps : goal.invariant-steps
invariant-steps l = 1 ≤ l.step

abbrev pub decreases-steps : goal.decreases-steps
decreases-steps l = l.step
