use Rattle.tz_info.proofs.{CalmYears.calm_tells, Neighbours.in_year, Words.{linear, to_z-of_z}}
use Rattle.tz_info.proofs.rule.alternate.AlternateTime.is_dst_in_year.Goals as goal

pub returns-then-is_calm : goal.returns-then-is_calm
returns-then-is_calm c =
    let fs = c.ranges.second in
    let a = c.args.self.now in let asked = c.requires.asked in
    let calm = c.is_calm.ensures c.if-is_calm.true in
    let (low, high) = in_year _ _ c.requires.year in
    rw (simp to_z-of_z at c.is_dst.ensures, asked.start, asked.end)
    (calm_tells a asked.rule calm _ _ c.requires.time low (omega linear))
