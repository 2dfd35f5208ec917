use Rattle.tz_info.proofs.{Fits.fits, Words.{SFits, inr, linear, refl, rules, w64}}
use Rattle.tz_info.proofs.zone.time_zone.TimeZone.try_until.Goals as goal

pub returns-then-is_within : goal.returns-then-is_within
returns-then-is_within c =
    let fl = c.ranges.local in
    record {
      type = _;
      leap_time = _;
      candidate = simp fits at c.candidate-time.ensures;
      tried = grind (linear, fits);
    }

pub returns-else-is_within : goal.returns-else-is_within
returns-else-is_within c =
    let fl = c.ranges.local in
    let fx : SFits w64 c.candidate-time.result.1 = search rules in
    let fs : SFits w64 c.args.current.unix_leap_time = search rules in
    record {
      type = _;
      leap_time = _;
      candidate = simp fits
          at c.candidate-time.ensures;
      tried = inr (λ i. let t = (simp fits at c.is_within.ensures).1 i in cc, refl);
    }
