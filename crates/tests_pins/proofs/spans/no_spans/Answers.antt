use Rattle.tests_pins.proofs.{Words.{arith, edt, est, fits_signed_from_abs, new_york_zone, pos, w64}, NewYork.{edt_until_2020, type_at, type_of_rule}}
use Rattle.tests_pins.proofs.NewYorkChanges.{apart}
use Rattle.tests_pins.proofs.spans.no_spans.Goals as goal
use Rattle.tz_info.proofs.ZoneLaws.{type_once}

pub returns : goal.returns
returns c = record {
  late = λ h. h.begins.out (type_at (pos 1_604_210_400) (omega arith) (omega arith));
  short = λ h. h.ends.out (type_at (pos 1_615_705_199) (omega arith) (omega arith));
  without_begin = λ h. apart (type_once new_york_zone (pos 1_604_210_399) est edt (h.each (pos 1_604_210_399)
      (record { fits = fits_signed_from_abs w64 (pos 1_604_210_399) (omega arith); since = tt; until = omega arith }))
      (type_of_rule (pos 1_604_210_399) edt edt_until_2020));
  without_end = λ h. apart (type_once new_york_zone (pos 1_615_705_200) est edt (h.each (pos 1_615_705_200)
      (record { fits = fits_signed_from_abs w64 (pos 1_615_705_200) (omega arith); since = omega arith; until = tt }))
      (type_at (pos 1_615_705_200) (omega arith) (omega arith)));
}
