use Rattle.tz_info.proofs.{Fits.fits, LeapOrder.times_rise, Words.{and_parts, arith, linear, ◌-◌}}
use Rattle.tz_info.proofs.zone.lists.starts.have_come.Goals as goal

pub returns : goal.returns
returns c = λ t. let (since, until) = and_parts _ _ t in record {
  within = omega arith;
  before = λ k d l. let r = times_rise _ d c.requires k (c.args.count - 1) in let last = c.is_since.ensures since d in grind (linear, fits);
  after = λ k d a l t. let r = times_rise _ d c.requires c.args.count k in let next = c.is_until.ensures until d in grind (linear, fits);
}
