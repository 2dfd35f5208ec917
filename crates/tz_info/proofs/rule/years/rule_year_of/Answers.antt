use Rattle.tz_info.proofs.{Fits.fits, RuleLaws.year_found, Words.{SFits, arith, floor_div, floors, w32, w64, ◌≡◌}}
use Rattle.tz_info.proofs.rule.years.rule_year_of.Goals as goal

pub returns : goal.returns
returns c =
    let fs = c.ranges.second in
    let at_day : SFits w64 c.day_of.result = omega (arith, floors) in
    let day : c.day_of.result ≡ floor_div _ 86_400 = simp fits at c.day_of.ensures.value in
    let (lies, inside) = year_found _ _ _ day (simp fits at c.year_of.ensures) c.requires in
    let at_year : SFits w32 c.year_of.result = omega (arith, floors) in
    simp fits (record { year = rw day at lies; bound = inside })
