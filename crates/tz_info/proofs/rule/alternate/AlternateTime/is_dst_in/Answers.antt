use Rattle.tz_info.proofs.{
  Words.{to_z-of_z, IsRuleYear, LiesIn, SFits, arith, floor_div, floors, w32, w64, ◌≡◌},
  Fits.{fits},
  RuleLaws.{alternate_at, year_found},
  rule.alternate.AlternateTime.is_dst_in.Goals.{After-year_of},
}
use Rattle.tz_info.proofs.rule.alternate.AlternateTime.is_dst_in.Goals as goal

pub returns-then-decides : goal.returns-then-decides
returns-then-decides c = grind (arith, to_z-of_z)

-- what was given fits, and so do its day and its year, in which it lies
in_year : (c : After-year_of) → SFits w64 c.args.unix_time × SFits w64 c.day_of-day.result × SFits w32 c.year_of.result
    × (c.day_of-day.result ≡ floor_div c.args.unix_time 86_400) × LiesIn c.day_of-day.result c.year_of.result × IsRuleYear c.year_of.result
in_year c =
    let at_second = c.ranges.unix_time in
    let at_day : SFits w64 c.day_of-day.result = omega (arith, floors) in
    let day : c.day_of-day.result ≡ floor_div _ 86_400 = simp fits at c.day_of-day.ensures.value in
    let (lies, inside) = year_found _ _ _ day (simp fits at c.year_of.ensures) c.requires.time in
    (at_second, at_day, omega (arith, floors), day, lies, inside)

pub is_dst-requires : goal.is_dst-requires
is_dst-requires c = grind (arith, to_z-of_z, in_year)

pub returns : goal.returns
returns c = grind (arith, to_z-of_z, in_year, alternate_at)
