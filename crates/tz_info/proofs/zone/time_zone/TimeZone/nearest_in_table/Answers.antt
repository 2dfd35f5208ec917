use Rattle.tz_info.proofs.{EntryChanges.{first_found, second_found}, Fits.fits, Words.{arith, linear, to_z-of_z}}
use Rattle.tz_info.proofs.zone.time_zone.TimeZone.nearest_in_table.Goals as goal

pub returns-in-Some : goal.returns-in-Some
returns-in-Some c =
    let table = c.change_table-changes.ensures in
    first_found _ _ table.valid table.list _ _ _ _ (grind (arith, to_z-of_z)) c.in-Some.ensures

pub returns-in-None : goal.returns-in-None
returns-in-None c = grind (linear, fits, second_found)
