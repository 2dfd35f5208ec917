-- Spans: the longest stretches of seconds with one type.
use Rattle.std.specs.{Prelude.{ℤ, pos, ◌-ℤ◌, ◌≤ℤ◌, ◌<ℤ◌, FitsSigned, Option, Some, None, IfSome}, Int.{w64}}
use Rattle.tz_base.specs.{LocalTypes.{LocalType}, declared.span.Span.{Span}}

-- at that second or later, or anywhere
abbrev pub IsSince : Option ℤ → ℤ → Type 0
IsSince (Some from) u = from ≤ℤ u
IsSince None u = Unit {0}

-- before that second, or anywhere
abbrev pub IsUntil : Option ℤ → ℤ → Type 0
IsUntil (Some until) u = u <ℤ until
IsUntil None u = Unit {0}

-- at each second from `from` on and before `until` the type t is in force
abbrev pub IsInForceWithin : (ℤ → LocalType → Type 0) → ℤ → ℤ → LocalType → Type 0
IsInForceWithin in_force from until t = (u : ℤ) → from ≤ℤ u → u <ℤ until → in_force u t

-- the second u of 64 bits lies in the span
pub record IsInSpan (s : Span) (u : ℤ) : Type 0 where
  pub fits : FitsSigned w64 u
  pub since : IsSince s.from u
  pub until : IsUntil s.until u

-- at the second u of 64 bits the type t is not in force: another one is, or the zone has none
pub record IsOutOfForce (in_force : ℤ → LocalType → Type 0) (t : LocalType) (u : ℤ) : Type 0 where
  pub fits : FitsSigned w64 u
  pub out : ¬ (in_force u t)

-- the span has a second, and at each of its seconds its type is in force; a second before it, and at the first second after it,
-- that type is not: another one is, or the zone has none
pub record IsSpan (in_force : ℤ → LocalType → Type 0) (s : Span) : Type 0 where
  pub some : (u : ℤ) × IsInSpan s u
  pub each : (u : ℤ) → IsInSpan s u → in_force u s.local_time_type
  pub begins : IfSome s.from (λ from. IsOutOfForce in_force s.local_time_type (from -ℤ pos 1))
  pub ends : IfSome s.until (λ until. IsOutOfForce in_force s.local_time_type until)

-- the span that the second u lies in, at which its type is in force
pub record IsSpanAt (in_force : ℤ → LocalType → Type 0) (u : ℤ) (s : Span) : Type 0 where
  pub in_force_then : in_force u s.local_time_type
  pub inside : IsInSpan s u
  pub span : IsSpan in_force s
