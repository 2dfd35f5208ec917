use Rattle.naive_base.proofs.Words.{rules, to_z-of_z}
use Rattle.naive_rrule.proofs.occasions.Occasions.is_at_position.Goals as goal

pub returns : goal.returns
returns c = search (rules, to_z-of_z)
