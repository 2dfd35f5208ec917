use Rattle.naive_base.proofs.Words.{arith, ints, rules}
use Rattle.naive_plans.proofs.ForCallers.{read_back}
use Rattle.naive_rrule.proofs.NthTimes.{all_passed, near_on, none_so_far, one_step}
use Rattle.naive_rrule.proofs.occasions.Occasions.has_after.Goals as goal

pub times-preserved : goal.times-preserved
times-preserved c =
    let step = one_step (rw (read_back c.ranges.time) at c.times.invariant) c.times-test.true c.in-Some.ensures in
    let near = near_on step in let after_is = read_back {z = c.in-Some.after} (search rules) in
    rw (after_is, read_back c.ranges.time) step

pub returns-in-None : goal.returns-in-None
returns-in-None c = (
  λ no. absurd (search rules),
  λ has. absurd (none_so_far (rw (read_back c.ranges.time) at c.times.invariant) c.times-test.true c.in-None.ensures has),
)

pub returns : goal.returns
returns c = all_passed _ _ (rw (read_back c.ranges.time) at c.times.invariant) (omega arith) c.is_none.ensures c.time_after-2.ensures

pub time_after-requires-clause-in_years : goal.time_after-requires-clause-in_years
time_after-requires-clause-in_years c = let near = near_on (rw (read_back c.ranges.time) at c.times.invariant) in omega (arith, ints)

pub time_after-requires-2-clause-in_years : goal.time_after-requires-2-clause-in_years
time_after-requires-2-clause-in_years c = let near = near_on (rw (read_back c.ranges.time) at c.times.invariant) in omega (arith, ints)
