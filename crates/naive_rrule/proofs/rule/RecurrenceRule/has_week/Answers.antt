use Rattle.naive_base.proofs.Words.{arith, to_z-of_z}
use Rattle.naive_rrule.proofs.RuleParts.{in_week}
use Rattle.naive_rrule.proofs.rule.RecurrenceRule.has_week.Goals as goal

pub returns : goal.returns
returns c = grind (arith, to_z-of_z, in_week)
