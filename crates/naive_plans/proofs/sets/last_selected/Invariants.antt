use Rattle.naive_base.proofs.Words.{pos, reading, unsigned_abs, ◌+ℤ◌}
use Rattle.naive_plans.specs.Steps.Sets.{IsKept}
use Rattle.naive_plans.proofs.Selected.{AreUpTo}
use Rattle.naive_plans.proofs.sets.last_selected.Given as goal

abbrev pub invariant-times : goal.invariant-times
invariant-times g l = AreUpTo (g.A.Plan.planned l.plan) (IsKept l.wanted (g.B.Plan.planned l.other)) (reading l.local).s (reading l.until).s

abbrev pub decreases-times : goal.decreases-times
decreases-times g l = unsigned_abs (pos 8_334_601_315_200 +ℤ (reading l.until).s)
