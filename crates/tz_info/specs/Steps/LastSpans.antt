-- The span after a zone's last clock change.
use Rattle.std.specs.{Prelude.{ℤ, ◌<ℤ◌, ◌≤ℤ◌, FitsSigned}, Int.{w64}}
use Rattle.{
  naive_base.specs.Range.{IsWide},
  offset_core.specs.WallAnswer.{IsShownOnce},
  tz_info.specs.{Changes.{HasNoChange, IsLast}, Spans.{IsSpanAt}, WallClocks.{Shows}, Zones.{Zone, TypeAt}},
  tz_info.specs.declared.zone.made.last_span.LastSpan.{LastSpan},
}

-- each later second up to the last that has a type lies in the span; after no later second clocks change, and the change that began
-- the span is the last one up to it; only one second shows a later local time, at the span's type
pub record IsLastSpan (z : Zone) (last : LastSpan) : Type 0 where
  pub each : (u : ℤ) → FitsSigned w64 u → last.after <ℤ u → u ≤ℤ last.last → IsSpanAt (TypeAt z) u last.span
  pub none : (u : ℤ) → FitsSigned w64 u → last.after <ℤ u → HasNoChange (TypeAt z) (λ v. u <ℤ v)
  pub begins : (u : ℤ) → FitsSigned w64 u → last.after <ℤ u → IsLast (TypeAt z) (λ v. v ≤ℤ u) last.begin
  pub shown : (local : ℤ) → IsWide local → last.local_after <ℤ local → IsShownOnce (Shows (TypeAt z) local) last.span.local_time_type
