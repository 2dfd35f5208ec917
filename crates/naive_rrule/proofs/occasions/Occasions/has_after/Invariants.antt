use Rattle.naive_rrule.proofs.NthTimes.{End, IsAsFar}
use Rattle.naive_rrule.proofs.occasions.Occasions.has_after.Given as goal

abbrev pub invariant-times : goal.invariant-times
invariant-times l = IsAsFar End l.self.rule l.self.start l.time l.count l.left l.last

abbrev pub decreases-times : goal.decreases-times
decreases-times l = l.left
