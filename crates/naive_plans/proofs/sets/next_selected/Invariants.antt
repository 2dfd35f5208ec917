use Rattle.naive_base.proofs.Words.{pos, reading, unsigned_abs, ◌-ℤ◌}
use Rattle.naive_plans.specs.Steps.Sets.{IsKept}
use Rattle.naive_plans.proofs.Selected.{AreLaterThan}
use Rattle.naive_plans.proofs.sets.next_selected.Given as goal

abbrev pub invariant-times : goal.invariant-times
invariant-times g l = AreLaterThan (g.A.Plan.planned l.plan) (IsKept l.wanted (g.B.Plan.planned l.other)) (reading l.local).s (reading l.after).s

abbrev pub decreases-times : goal.decreases-times
decreases-times g l = unsigned_abs (pos 8_210_266_963_200 -ℤ (reading l.after).s)
