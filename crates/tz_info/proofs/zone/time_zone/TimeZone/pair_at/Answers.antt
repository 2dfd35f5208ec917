use Rattle.tz_info.proofs.{DifferenceLaws.pair_until, Fits.fits, RunLaws.run_until, Words.{TypeAt, arith, ints, linear, rules}}
use Rattle.tz_info.proofs.zone.time_zone.TimeZone.pair_at.Goals as goal

pub returns : goal.returns
returns c =
    let fs = c.ranges.second in let fl = c.ranges.limit in
    let fo = c.end_by-own.type_inv in
    let fe = c.end_by.type_inv in
    let old = simp fits at c.near_span_at-old.ensures in
    let new = simp fits at c.near_span_at-new.ensures in
    let near = c.requires.near in let own =
    run_until _ _ _ _ _ near c.requires.limit c.requires.ahead old (simp fits at c.end_by-own.ensures) in
    let other = run_until _ _ _ _ _ near
    (omega (arith, ints), omega (arith, ints)) own.later new (simp fits at c.end_by.ensures) in
    record {
      from = search rules;
      until = simp fits (pair_until (TypeAt c.args.self.now) (TypeAt c.args.other.now) _ _ _ _ own other);
      types = grind linear;
    }
