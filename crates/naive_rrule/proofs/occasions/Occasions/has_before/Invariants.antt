use Rattle.naive_rrule.proofs.NthTimes.{Front, IsAsFar}
use Rattle.naive_rrule.proofs.occasions.Occasions.has_before.Given as goal

abbrev pub invariant-times : goal.invariant-times
invariant-times l = IsAsFar Front l.self.rule l.self.start l.time l.count l.left l.first

abbrev pub decreases-times : goal.decreases-times
decreases-times l = l.left
