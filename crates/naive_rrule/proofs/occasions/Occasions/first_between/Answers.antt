use Rattle.naive_base.proofs.Words.{arith, by_lt_z, floor_div, floors, ints, pos, to_z, w64, ◌*ℤ◌, ◌≡◌}
use Rattle.naive_plans.proofs.ForCallers.{read_back, none_on_day}
use Rattle.naive_rrule.proofs.OccasionWalk.{first_found, left_at_start, left_later, none_between}
use Rattle.naive_rrule.specs.RecurrenceRules.{IsOccasion, IsOccasionOn}
use Rattle.naive_rrule.proofs.occasions.Occasions.first_between.Goals as goal

pub days-init : goal.days-init
days-init c =
    let day : c.day_of-day.result ≡ floor_div c.args.from 86_400 = rw (read_back c.ranges.from) at c.day_of-day.ensures in
    rw (read_back (record { sfits = c.day_of-day.type_inv }), read_back c.ranges.from) (
      omega (arith, ints, floors),
      omega (arith, ints, floors),
      left_at_start _ _ _ _ day (rw (read_back c.ranges.from) at c.second_of-second.ensures.value),
      c.second_of-second.ensures.bound,
    )

pub days-preserved : goal.days-preserved
days-preserved c =
    let on = IsOccasionOn c.args.self.now.rule c.args.self.now.start in rw (read_back (record { sfits = c.day_after-day.type_inv })) (
      omega (arith, ints),
      (c.day_after-day.ensures.bound),
      left_later on (none_on_day on c.days.invariant.2
          c.in_default.ensures) c.day_after-day.ensures.later c.day_after-day.ensures.none,
      omega arith,
    )

pub returns-in-Some : goal.returns-in-Some
returns-in-Some c =
    let on = IsOccasionOn c.args.self.now.rule c.args.self.now.start in let inv = rw (read_back c.ranges.from) at c.days.invariant in
    let over = rw (read_back c.ranges.end, read_back (record { sfits = c.second_at.type_inv })) at c.before_end.ensures in
    first_found on _ _ _ inv.2
    c.in-Some.ensures c.second_at.ensures over

pub returns : goal.returns
returns c =
    let inv = rw (read_back c.ranges.from) at c.days.invariant in
    let before = rw (read_back c.ranges.end) at c.starts_before.ensures in
    none_between (IsOccasion c.args.self.now.rule c.args.self.now.start) c.args.from c.args.end (to_z w64 c.days.day-bits) c.days.second inv.2
    (by_lt_z (to_z w64 c.days.day-bits *ℤ pos 86_400) c.args.end (λ less. grind (arith, before.1 less, c.days-test.false))
    (λ not. omega (arith, ints)))
