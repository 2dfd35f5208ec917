use Rattle.tz_info.proofs.{EntryChanges.not_last, Words.{inr, refl}}
use Rattle.tz_info.proofs.zone.time_zone.TimeZone.type_after.Goals as goal

pub returns-else-come-clause-counted : goal.returns-else-come-clause-counted
returns-else-come-clause-counted c = inr (inr (not_last _ _ _ c.requires.come c.if-come.false, refl))
