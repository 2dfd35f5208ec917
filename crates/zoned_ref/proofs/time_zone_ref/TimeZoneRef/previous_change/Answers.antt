use Rattle.zoned_ref.proofs.{Words.{arith, change_of, ints, to_z-of_z, false, zone_of, zoned}, Changes.{nearest_told, none_told, stand_within}}
use Rattle.zoned_ref.proofs.time_zone_ref.TimeZoneRef.previous_change.Goals as goal

pub returns-clause-change : goal.returns-clause-change
returns-clause-change g c = grind (arith, ints, nearest_told, zone_of, to_z-of_z)

pub returns-clause-since : goal.returns-clause-since
returns-clause-since g c =
    stand_within _ _ (grind arith) false change_of
    _ c.args.before_or_at.now.in_range c.instants_around.result (returns-clause-change g c)

pub returns-in_err-change-clause-since : goal.returns-in_err-change-clause-since
returns-in_err-change-clause-since g c =
    stand_within _ _ (grind arith) false change_of
    (zoned c.args.before_or_at.now).utc.s c.args.before_or_at.now.in_range c.from_residual.result (grind (arith, ints, none_told))
