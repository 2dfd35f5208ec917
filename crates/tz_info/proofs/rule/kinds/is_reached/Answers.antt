use Rattle.tz_info.proofs.{Fits.fits, Words.{SFits, arith, linear, w128, ◌+ℤ◌}}
use Rattle.tz_info.proofs.rule.kinds.is_reached.Goals as goal

pub returns : goal.returns
returns c =
    let fy = c.ranges.year in let ff = c.ranges.first in let fl = c.ranges.last in
    let gy : SFits w128 c.args.year = omega arith in let gf : SFits w128 c.args.first = omega arith in let gl : SFits w128 c.args.last = omega arith in
    let gs : SFits w128 (c.args.year +ℤ c.args.first) = omega linear in grind (linear, fits)
