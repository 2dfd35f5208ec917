-- Steps from span to span.
use Rattle.std.specs.{Prelude.{ℤ, pos, ◌≡◌, ◌-ℤ◌, ◌≤ℤ◌, Option, MatchOption, unsigned_abs, unwrap_or}, Iterator.{Count, at_most}}
use Rattle.tz_base.specs.{LocalTypes.{LocalType}, declared.span.Span.{Span}}
use Rattle.tz_info.specs.{Leaps.{least_time}, Spans.{IsSpanAt}, Zones.{Zone, TypeAt}}

-- a place in a zone's time, just before the second `at`; after the last second of 64 bits `at` is the number after it
pub record SpanPlace : Type 0 where
  pub zone : Zone
  pub at : ℤ

-- the span that the second u lies in, or nothing if it lies in none
abbrev pub IsSpanIfAny : (ℤ → LocalType → Type 0) → ℤ → Option Span → Type 0
IsSpanIfAny in_force u found = MatchOption found ((s : Span) → IsSpanAt in_force u s → ⊥) (IsSpanAt in_force u)

-- the second after the span's last one
abbrev pub end_of : Span → ℤ
end_of s = unwrap_or s.until (pos 9_223_372_036_854_775_808)

-- the span's first second
abbrev pub begin_of : Span → ℤ
begin_of s = unwrap_or s.from least_time

-- a step over the span after the place, to its end; no step if the second there lies in no span
pub record IsNextSpan (before : SpanPlace) (found : Option Span) (after : SpanPlace) : Type 0 where
  pub zone : after.zone ≡ before.zone
  pub span : IsSpanIfAny (TypeAt before.zone) before.at found
  pub at : MatchOption found (after.at ≡ before.at) (λ s. after.at ≡ end_of s)

-- a step over the span before the place, to its begin
pub record IsPreviousSpan (before : SpanPlace) (found : Option Span) (after : SpanPlace) : Type 0 where
  pub zone : after.zone ≡ before.zone
  pub span : IsSpanIfAny (TypeAt before.zone) (before.at -ℤ pos 1) found
  pub at : MatchOption found (after.at ≡ before.at) (λ s. after.at ≡ begin_of s)

-- the place is in the seconds of 64 bits, or just after them
abbrev pub IsPlace : ℤ → Type 0
IsPlace at = (least_time ≤ℤ at) × (at ≤ℤ pos 9_223_372_036_854_775_808)

-- as many spans as there are seconds may follow
abbrev pub spans_most : SpanPlace → Count
spans_most p = at_most (unsigned_abs (pos 9_223_372_036_854_775_808 -ℤ p.at))
