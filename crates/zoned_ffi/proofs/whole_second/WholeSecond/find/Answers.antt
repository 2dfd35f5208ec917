use Rattle.zoned_ffi.proofs.{WholeSeconds.{no_stamp}, Words.{Fits64, ap, arith, rules, subst, to_z-of_z}}
use Rattle.zoned_ffi.specs.WholeSeconds.{IsFoundBy, IsNoneFoundBy, IsNotFound}
use Rattle.zoned_ref.specs.TimeZoneRef.{off_of}
use Rattle.zoned_plans.specs.Fires.{second_before}
use Rattle.zoned_ffi.proofs.whole_second.WholeSecond.find.Goals as goal

pub returns-in_default : goal.returns-in_default
returns-in_default c = grind (arith, IsNotFound.wide)

pub returns-in_default-from_timestamp : goal.returns-in_default-from_timestamp
returns-in_default-from_timestamp c = grind (arith, to_z-of_z, no_stamp, IsNotFound.out_of_range)

pub returns-in-Some-find_by : goal.returns-in-Some-find_by
returns-in-Some-find_by c =
    let second = c.ranges.second in
    let found : Fits64 c.in-Some-find_by.found = search rules in
    let narrow = c.in-Some.narrow in let offsets = c.in-Some.ensures.offsets in
    let stamp = simp to_z-of_z at c.in-Some-from_timestamp.ensures in
    simp to_z-of_z (
      off_of narrow,
      offsets,
      subst (λ r. IsFoundBy (off_of narrow) c.args.self r.s (second_before r) c.in-Some-find_by.found) (ap (λ d. d.utc) stamp.1) c.in-Some-find_by.ensures,
    )

pub returns-in-None : goal.returns-in-None
returns-in-None c =
    let second = c.ranges.second in
    let narrow = c.in-Some.narrow in let offsets = c.in-Some.ensures.offsets in
    let stamp = simp to_z-of_z at c.in-Some-from_timestamp.ensures in
    IsNotFound.none (off_of narrow) offsets
    (subst (λ r. IsNoneFoundBy (off_of narrow) c.args.self r.s (second_before r)) (ap (λ d. d.utc) stamp.1) c.in-None.ensures)
