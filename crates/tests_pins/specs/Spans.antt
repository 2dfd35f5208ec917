-- Spans of New York.
use Rattle.std.specs.Prelude.{ℤ, pos, neg_ℤ, Option, Some}
use Rattle.tz_base.specs.{LocalTypes.{LocalType}, declared.span.Span.{Span}}
use Rattle.tests_pins.specs.NewYork.{est, new_york, new_york_zone}
use Rattle.tz_info.specs.{PosixZones.{posix_zone}, Rules.{Alternate}, SpanSteps.{SpanPlace}, Zones.{Zone}}
use Rattle.tz_info.specs.declared.rule.transition_rule.TransitionRule.TheVariants as rules

-- a span of that type, from and until those seconds
abbrev pub span_of : LocalType → Option ℤ → Option ℤ → Span
span_of t from until = record { local_time_type = t; from = from; until = until }

-- from 2020-11-01 06:00:00 UTC until 2021-03-14 07:00:00 UTC
abbrev pub winter : Span
winter = span_of est (Some (pos 1_604_210_400)) (Some (pos 1_615_705_200))

-- the place in New York's time just before that second
abbrev pub place_before : ℤ → SpanPlace
place_before at = record { zone = new_york_zone; at = at }

-- New York's rule with standard time all year
abbrev pub steady : Alternate
steady = record new_york { dst = est }

-- a zone whose rule has two types that are one
abbrev pub steady_zone : Zone
steady_zone = posix_zone (rules.Alternate steady)

-- the years in which a rule answers, -2147483646 to 2147483645
abbrev pub rule_years : Span
rule_years = span_of est (Some (neg_ℤ (pos 67_768_100_504_812_800))) (Some (pos 67_767_976_170_460_800))
