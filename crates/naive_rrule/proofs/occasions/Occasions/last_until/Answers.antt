use Rattle.naive_base.proofs.Words.{arith, by_lt_z, floor_div, floors, ints, pos, to_z, w64, ◌*ℤ◌, ◌+ℤ◌, ◌-ℤ◌, ◌≡◌}
use Rattle.naive_plans.proofs.ForCallers.{read_back, last_on_day, none_back}
use Rattle.naive_rrule.proofs.OccasionsBack.{all_until, left_earlier, none_until}
use Rattle.naive_rrule.specs.RecurrenceRules.{IsOccasionOn}
use Rattle.naive_rrule.proofs.occasions.Occasions.last_until.Goals as goal

pub days-init : goal.days-init
days-init c =
    let fits = c.ranges.until in let day : c.day_of-day.result ≡ floor_div c.args.until 86_400 = rw (read_back fits) at c.day_of-day.ensures in
    rw (read_back (record { sfits = c.day_of-day.type_inv }), read_back fits) (
      omega (arith, ints, floors),
      omega (arith, ints, floors),
      all_until _ _ _ _ day (rw (read_back fits) at c.second_of-second.ensures.value),
    )

pub day_before-day-requires : goal.day_before-day-requires
day_before-day-requires c =
    let ends = (rw (read_back (record { sfits = c.second_before_all-earliest.type_inv })) at c.ends_after.ensures).0 c.days-test.true in
    (omega (arith, ints), c.days.invariant.1)

pub days-preserved : goal.days-preserved
days-preserved c =
    let on = IsOccasionOn c.args.self.now.rule c.args.self.now.start in rw (read_back (record { sfits = c.day_before-day.type_inv })) (
      c.day_before-day.ensures.bound,
      omega (arith, ints),
      left_earlier on _ _ _ (none_back on c.days.invariant.2
          c.in_default.ensures) c.day_before-day.ensures.earlier
          c.day_before-day.ensures.none,
    )

pub returns-in-Some : goal.returns-in-Some
returns-in-Some c =
    let on = IsOccasionOn c.args.self.now.rule c.args.self.now.start in let inv = rw (read_back c.ranges.until) at c.days.invariant in
    rw (read_back (record { sfits = c.second_at.type_inv }), c.second_at.ensures) (last_on_day on inv.2 c.in-Some.ensures)

pub returns : goal.returns
returns c =
    let inv = rw (read_back c.ranges.until) at c.days.invariant in
    let ends = rw (read_back (record { sfits = c.second_before_all-earliest.type_inv }), c.second_before_all-earliest.ensures) at
    c.ends_after.ensures in
    none_until _ _ _ _ _ inv.2
    (by_lt_z (c.args.self.now.start -ℤ pos 31_708_800) (to_z w64 c.days.day-bits *ℤ pos 86_400 +ℤ pos 86_400)
    (λ less. grind (arith, ends.1 less, c.days-test.false))
    (λ not. not))
