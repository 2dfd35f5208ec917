use Rattle.naive_base.proofs.Words.{arith, rules}
use Rattle.naive_plans.proofs.ForCallers.{read_back}
use Rattle.naive_rrule.proofs.{NthTimes.{all_passed, none_so_far, one_step}, OccasionsBack.{after_all}}
use Rattle.naive_rrule.proofs.occasions.Occasions.has_before.Goals as goal

pub times-preserved : goal.times-preserved
times-preserved c =
    let inv = rw (read_back c.ranges.time) at c.times.invariant in let own = c.in-Some.ensures in
    let low = after_all _ _ _ own.one.occasion in let before_is = read_back {z = c.in-Some.before} (search rules) in
    rw (before_is, read_back c.ranges.time) (one_step inv c.times-test.true own)

pub returns-in-None : goal.returns-in-None
returns-in-None c = (
  λ no. absurd (search rules),
  λ has. absurd (none_so_far (rw (read_back c.ranges.time) at c.times.invariant) c.times-test.true c.in-None.ensures has),
)

pub returns : goal.returns
returns c = all_passed _ _ (rw (read_back c.ranges.time) at c.times.invariant) (omega arith) c.is_none.ensures c.time_before-2.ensures
