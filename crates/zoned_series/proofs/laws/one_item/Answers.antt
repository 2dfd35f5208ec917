use Rattle.zoned_time.proofs.ForCallers.{resolved_once}
use Rattle.zoned_series.proofs.OneItem.{missing_once, not_item}
use Rattle.zoned_series.proofs.laws.one_item.Goals as goal

pub returns-clause-item : goal.returns-clause-item
returns-clause-item g c = λ zone s n d e h k. resolved_once g.met.Tz.TimeZone.told _ _ _ _ _ h.resolved k.resolved

pub returns-clause-missing : goal.returns-clause-missing
returns-clause-missing g c = λ zone. missing_once (g.Tz.TimeZone.law zone)

pub returns-clause-not_both : goal.returns-clause-not_both
returns-clause-not_both g c = λ zone. not_item (g.Tz.TimeZone.law zone)
