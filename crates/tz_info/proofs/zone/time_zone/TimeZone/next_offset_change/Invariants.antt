use Rattle.tz_info.proofs.Words.{KeepsOffset, TypeAt, pos, unsigned_abs, ◌-ℤ◌, ◌<ℤ◌, ◌≤ℤ◌}
use Rattle.tz_info.proofs.zone.time_zone.TimeZone.next_offset_change.Given as goal

abbrev pub invariant-changes : goal.invariant-changes
invariant-changes l = (l.after ≤ℤ l.reached) × KeepsOffset (TypeAt l.self) (λ u. (l.after <ℤ u) × (u ≤ℤ l.reached))

abbrev pub decreases-changes : goal.decreases-changes
decreases-changes l = unsigned_abs (pos 9_223_372_036_854_775_807 -ℤ l.reached)
