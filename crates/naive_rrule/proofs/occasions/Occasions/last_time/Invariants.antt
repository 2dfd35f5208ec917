use Rattle.naive_rrule.proofs.OccasionsBack.{IsPassedBack}
use Rattle.naive_rrule.specs.Steps.OccasionSteps.{IsTimeOn}
use Rattle.naive_rrule.proofs.occasions.Occasions.last_time.Given as goal

abbrev pub invariant-seconds : goal.invariant-seconds
invariant-seconds l = IsPassedBack (IsTimeOn l.self.rule l.self.start l.day) l.until l.left

abbrev pub decreases-seconds : goal.decreases-seconds
decreases-seconds l = l.left
