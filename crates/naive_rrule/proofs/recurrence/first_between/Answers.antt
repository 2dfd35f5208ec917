use Rattle.naive_base.proofs.Words.{arith, ints, refl, rules, to_z-of_z}
use Rattle.naive_plans.proofs.ForCallers.{read_back}
use Rattle.naive_rrule.proofs.RuleTimes.{first_from, more_from, none_from}
use Rattle.naive_rrule.proofs.recurrence.first_between.Goals as goal

pub returns-in_default : goal.returns-in_default
returns-in_default c = grind (arith, to_z-of_z, none_from)

pub returns-then-is_at_position : goal.returns-then-is_at_position
returns-then-is_at_position c =
    let inv = rw (read_back c.ranges.from, read_back c.ranges.end) at c.times.invariant in
    let first = rw (read_back c.ranges.end) at c.in-Some.ensures in
    let same = read_back {z = c.in-Some.time} (search rules) in
    rw same (first_from c.requires.from
    c.requires.end inv.1 first (rw same at (c.if-is_at_position.ensures.0 refl)))

pub times-preserved : goal.times-preserved
times-preserved c =
    let inv = rw (read_back c.ranges.from, read_back c.ranges.end) at c.times.invariant in
    let first = rw (read_back c.ranges.end) at c.in-Some.ensures in
    let same = read_back {z = c.in-Some.time} (search rules) in
    let next = rw same at c.second_after-left.ensures in
    let at = rw same at c.if-is_at_position.ensures in
    rw (read_back (record { sfits = c.second_after-left.type_inv }), read_back c.ranges.from, read_back c.ranges.end) (
      omega (arith, ints),
      more_from inv.1 first
          (λ own. grind (arith, at.1 own, c.if-is_at_position.false)) next,
    )
