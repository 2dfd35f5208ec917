use Rattle.zoned_time.proofs.Once.{not_resolved, resolved_once, unresolved_once}
use Rattle.zoned_time.proofs.laws.one_resolution.Goals as goal

pub returns : goal.returns
returns g c = record {
  resolved = λ zone l choice a b h k. resolved_once g.met.Tz.TimeZone.told (g.Tz.TimeZone.law zone) l choice a b h k;
  unresolved = λ zone l choice e f h k. unresolved_once (g.Tz.TimeZone.law zone).off l.s choice e f h k;
  not_both = λ zone l choice a e h k. not_resolved (g.Tz.TimeZone.law zone) l choice a e h k;
}
