use Rattle.tz_info.proofs.{Fits.fits, Words.{SFits, arith, linear, pos, w128, ◌-ℤ◌}}
use Rattle.tz_info.proofs.zone.ask.spans.Spans.previous.Goals as goal

pub returns : goal.returns
returns c =
    let fi : SFits w128 c.span_of.inside.at = omega arith in
    let fa : SFits w128 (c.span_of.inside.at -ℤ pos 1) = omega linear in grind (linear, fits)
