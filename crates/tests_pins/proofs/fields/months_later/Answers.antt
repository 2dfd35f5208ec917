use Rattle.tests_pins.proofs.{Words.{arith, date_only, inl, ints, pos, refl}, Computed.{calendar}, GivenDays.{given_day, is_given}}
use Rattle.tests_pins.proofs.fields.months_later.Goals as goal

pub returns-clause-later : goal.returns-clause-later
unfolding calendar
returns-clause-later c answer h = grind (arith, ints, date_only (pos 19_204) (pos 2022) 7 31 (omega arith, omega arith, omega arith, omega arith) refl)

pub returns-clause-earlier : goal.returns-clause-earlier
unfolding calendar
returns-clause-earlier c answer h =
    let february = date_only (pos 19_043) (pos 2022) 2 20 (omega arith, omega arith, omega arith, omega arith) refl in
    given_day _ _ answer ((omega arith, omega arith, omega arith, omega arith), inl (omega arith, omega arith)) (rw (february.0, february.1, february.2) at h)

pub returns-clause-is_later : goal.returns-clause-is_later
unfolding calendar
returns-clause-is_later c =
    let july = date_only (pos 19_204) (pos 2022) 7 31 (omega arith, omega arith, omega arith, omega arith) refl in
    rw (july.0, july.1, july.2) (is_given _ (pos 19_265) ((omega arith, omega arith, omega arith, omega arith), inl (omega arith, omega arith)))

pub returns-clause-is_earlier : goal.returns-clause-is_earlier
unfolding calendar
returns-clause-is_earlier c =
    let february = date_only (pos 19_043) (pos 2022) 2 20 (omega arith, omega arith, omega arith, omega arith) refl in
    rw (february.0, february.1, february.2) (is_given _ (pos 18_859) ((omega arith, omega arith, omega arith, omega arith), inl (omega arith, omega arith)))
