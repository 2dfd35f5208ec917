use Rattle.tz_info.proofs.Words.{KeepsOffset, TypeAt, pos, unsigned_abs, ◌+ℤ◌, ◌<ℤ◌, ◌≤ℤ◌}
use Rattle.tz_info.proofs.zone.time_zone.TimeZone.previous_offset_change.Given as goal

abbrev pub invariant-changes : goal.invariant-changes
invariant-changes l = (l.reached ≤ℤ l.before_or_at) × KeepsOffset (TypeAt l.self) (λ u. (l.reached <ℤ u) × (u ≤ℤ l.before_or_at))

abbrev pub decreases-changes : goal.decreases-changes
decreases-changes l = unsigned_abs (l.reached +ℤ pos 9_223_372_036_854_775_808)
