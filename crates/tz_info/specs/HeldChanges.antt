-- Clock changes, spans and seconds with references to the types that the zone holds.
use Rattle.tz_base.specs.declared.{change.Change.{Change}, span.Span.{Span}}
use Rattle.tz_info.specs.declared.change.{HeldChange.{HeldChange}, HeldSecond.{HeldSecond}, HeldSpan.{HeldSpan}, TypedSecond.{TypedSecond}}

-- the change with the types themselves
abbrev pub change_held : HeldChange → Change
change_held c = record { at = c.at; before = c.before.now; after = c.after.now }

-- the span with the type itself
abbrev pub span_held : HeldSpan → Span
span_held s = record { local_time_type = s.local_time_type.now; from = s.from; until = s.until }

-- the second with the type itself
abbrev pub second_held : HeldSecond → TypedSecond
second_held s = record { at = s.at; local_time_type = s.local_time_type.now }
