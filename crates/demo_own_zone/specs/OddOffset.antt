-- What an `OddOffset` shows.
use Rattle.std.specs.Prelude.{ℤ, pos}
use Rattle.zoned_time.specs.Zone.{Meaning, Law, meaning_by_seconds, law_by_seconds}
use Rattle.demo_own_zone.specs.{Odd.{odd_offset}, declared.{offset.OddOffset.{OddOffset, TheVariants.{Even, Odd}}, zone.Odd.{Odd as TheZone}}}

-- how many seconds clocks are ahead of UTC
abbrev pub ahead_of : OddOffset → ℤ
ahead_of Even = pos 0
ahead_of Odd = pos 1

-- what the offsets mean: their zone is the odd one
abbrev pub meaning_of : Meaning OddOffset
meaning_of = meaning_by_seconds ahead_of (λ _. odd_offset)

-- the law of the zone
abbrev pub law_of : TheZone → Law meaning_of
law_of _ = law_by_seconds odd_offset
