use Rattle.zoned_ref.proofs.{Words.{arith, ints, to_z-of_z}}
use Rattle.zoned_ref.proofs.time_zone_ref.TimeZoneRef.instants_around.Goals as goal

pub returns : goal.returns
returns c =
    let before = simp (to_z-of_z, c.requires.change.fits, c.requires.change.fits_before) at c.in_ok-before.ensures in
    grind (to_z-of_z, arith, ints)
