-- A kept stretch of seconds in which one type is in force.
use Rattle.std.specs.Prelude.{ℤ, ◌≤ℤ◌, ◌<ℤ◌}
use Rattle.tz_info.specs.{Zones.{Zone, TypeAt}, declared.zone.ask.lookups.Held.{Held}}

-- from its first second on, and before its end, the type is in force
abbrev pub IsHeld : Zone → Held → Type 0
IsHeld z held = (u : ℤ) → held.first ≤ℤ u → u <ℤ held.end → TypeAt z u held.local_time_type
