use Rattle.tz_info.proofs.{SeasonLaws.within, Words.{SFits, rules, to_z-of_z, w64}}
use Rattle.tz_info.proofs.rule.alternate.AlternateTime.season_for.Goals as goal

pub returns-then-second_showing-season : goal.returns-then-second_showing-season
returns-then-second_showing-season c = λ dst is greater lesser.
    let fl = c.ranges.local in let ff = c.ranges.from in let f1 = c.ranges.first in let f2 = c.ranges.last in
    let ffrom : SFits w64 c.args.season.from = search rules in
    let funtil : SFits w64 c.args.season.until = search rules in
    let fearlier : SFits w64 c.second_showing-earlier.result = search rules in
    let flater : SFits w64 c.second_showing.result = search rules in
    let first = rw greater at (simp to_z-of_z at c.second_showing-earlier.ensures.value) in
    let last = rw lesser at (simp to_z-of_z at c.second_showing.ensures.value) in
    within _ _ _ _ _ c.requires.season is (rw first at (simp to_z-of_z at c.if-from-earlier.true))
    (rw first at (simp to_z-of_z at c.if-season-earlier.true)) (rw last at (simp to_z-of_z at c.if-second_showing-season.true))
