-- Seasons: the moments of one year, for several seconds near it.
use Rattle.std.specs.Prelude.{Option, Some, ℤ, length, ◌-ℤ◌, ◌≤ℤ◌, ◌<ℤ◌}
use Rattle.tz_info.specs.{
  Moments.{AlternateAt, IsRuleTime, type_when},
  Rules.{Alternate},
  Steps.{Turns.{is_dst_by_one}, WallPieces.{IsStart}},
  Zones.{Zone},
  declared.rule.{season.Season.{Season}, transition_rule.TransitionRule.{TransitionRule}},
}
use Rattle.tz_info.specs.declared.rule.transition_rule.TransitionRule.TheVariants as rules

-- the second u lies in the season
abbrev pub IsDecidedIn : Season → ℤ → Type 0
IsDecidedIn s u = (s.from ≤ℤ u) × (u <ℤ s.until)

-- at each second of the season its two moments alone decide
pub record IsSeason (a : Alternate) (s : Season) : Type 0 where
  pub decided : (u : ℤ) → IsRuleTime u → IsDecidedIn s u → AlternateAt a u (type_when a (is_dst_by_one s.turns.start s.turns.end u))

-- the second u comes at `from` or later, and the season's moments decide there
pub record IsAmidFrom (s : Season) (from u : ℤ) : Type 0 where
  pub decided : IsDecidedIn s u
  pub since : from ≤ℤ u

-- so it is with both seconds that could show the local time
pub record IsSeasonFor (a : Alternate) (from local : ℤ) (s : Season) : Type 0 where
  pub season : IsSeason a s
  pub standard : IsAmidFrom s from (local -ℤ a.std.offset)
  pub daylight : IsAmidFrom s from (local -ℤ a.dst.offset)

-- the same of a rule that has two types
abbrev pub IsSeasonOf : Option TransitionRule → ℤ → ℤ → Season → Type 0
IsSeasonOf (Some (rules.Alternate a)) from local s = IsSeasonFor a from local s
IsSeasonOf _ from local s = ⊥

-- the same of a zone's rule, from the last transition on
abbrev pub IsSeasonIn : Zone → ℤ → Season → Type 0
IsSeasonIn z local s = (from : ℤ) × IsStart z.transitions z.leaps (length z.transitions) from × IsSeasonOf z.rule from local s
