use Rattle.naive_base.proofs.Words.{rules}
use Rattle.naive_rrule.proofs.Chains.{never_placed}
use Rattle.naive_rrule.proofs.occasions.Occasions.has_no_position.Goals as goal

pub returns-in-Daily : goal.returns-in-Daily
returns-in-Daily c told l one at = never_placed _ _ (search rules) (c.is_too_short.ensures told) l at

pub returns-in-Hourly : goal.returns-in-Hourly
returns-in-Hourly c told l one at = never_placed _ _ (search rules) (c.is_too_short-in-Hourly.ensures told) l at

pub returns-in-Minutely : goal.returns-in-Minutely
returns-in-Minutely c told l one at = never_placed _ _ (search rules) (c.is_too_short-in-Minutely.ensures told) l at

pub returns-in-Secondly : goal.returns-in-Secondly
returns-in-Secondly c told l one at = never_placed _ _ (search rules) (c.is_too_short-in-Secondly.ensures told) l at
