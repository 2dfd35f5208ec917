-- Nepal's clocks.
use Rattle.std.specs.Prelude.{ℤ, pos}
use Rattle.zoned.specs.{FixedOffset.{seconds_of}, Zone.{Meaning, Law, meaning_by_seconds, law_by_seconds}, declared.FixedOffset.{FixedOffset}}
use Rattle.demo_examples.specs.declared.own_zone.Nepal.{Nepal as TheZone}

-- seconds ahead of UTC: 5 hours and 45 minutes
abbrev pub ahead_of_utc : ℤ
ahead_of_utc = pos 20_700

-- what an offset means: its own seconds, and Nepal's clocks
abbrev pub meaning_of : Meaning FixedOffset
meaning_of = meaning_by_seconds seconds_of (λ _ _. ahead_of_utc)

-- the law of the zone: the same offset at each second
abbrev pub law_of : TheZone → Law meaning_of
law_of _ = law_by_seconds (λ _. ahead_of_utc)
