use Rattle.zoned_ref.proofs.{Words.{arith, change_of, ints, to_z-of_z, true, zone_of, zoned}, Changes.{nearest_told, none_told, stand_within}}
use Rattle.zoned_ref.proofs.time_zone_ref.TimeZoneRef.next_change.Goals as goal

pub returns-clause-change : goal.returns-clause-change
returns-clause-change g c = grind (arith, ints, nearest_told, zone_of, to_z-of_z)

pub returns-clause-until : goal.returns-clause-until
returns-clause-until g c =
    stand_within _ _ (grind arith) true change_of
    _ c.args.after.now.in_range c.instants_around.result (returns-clause-change g c)

pub returns-in_err-change-clause-until : goal.returns-in_err-change-clause-until
returns-in_err-change-clause-until g c =
    stand_within _ _ (grind arith) true change_of
    (zoned c.args.after.now).utc.s c.args.after.now.in_range c.from_residual.result (grind (arith, ints, none_told))
