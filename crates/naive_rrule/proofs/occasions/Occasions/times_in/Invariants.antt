use Rattle.std.proofs.Common.{◌≤◌}
use Rattle.naive_rrule.proofs.Chains.{AreFew}
use Rattle.naive_rrule.proofs.occasions.Occasions.times_in.Given as goal

abbrev pub invariant-loop-second : goal.invariant-loop-second
invariant-loop-second l = (l.counted ≤ l.second) × AreFew l.self.rule l.self.start l.length l.second l.counted
