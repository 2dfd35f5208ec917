use Rattle.tz_info.specs.FilePlaces.{At_index, At_leap, At_rule, At_time}
use Rattle.tz_info.proofs.file.place.from_fault_of_lists.Goals as goal

pub returns-in-Some : goal.returns-in-Some
returns-in-Some c = rw (c.after.ensures, c.from_parts-from.ensures.type_indexes) (At_index _ c.in-Some.ensures)

pub returns-in-Some-first_not_later : goal.returns-in-Some-first_not_later
returns-in-Some-first_not_later c =
    rw (c.after-in-Some-first_not_later.ensures, c.from_parts-from.ensures.times) (At_time _ c.in_default.ensures c.in-Some-first_not_later.ensures)

pub returns-in-Some-first_other_leap : goal.returns-in-Some-first_other_leap
returns-in-Some-first_other_leap c = rw (c.after-in-Some-first_other_leap.ensures, c.from_parts-from.ensures.leap_seconds)
    (At_leap _ c.in_default.ensures c.in_default-first_not_later.ensures c.in-Some-first_other_leap.ensures)

pub returns : goal.returns
returns c = rw (c.after_space.ensures, c.footer_bytes.ensures)
    (At_rule c.in_default.ensures c.in_default-first_not_later.ensures c.in_default-first_other_leap.ensures)
