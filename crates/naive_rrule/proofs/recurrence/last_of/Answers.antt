use Rattle.naive_base.proofs.Words.{arith, refl, rules}
use Rattle.naive_plans.proofs.ForCallers.{read_back}
use Rattle.naive_rrule.proofs.Counted.{all_counted, one_more_counted, whole_count}
use Rattle.naive_rrule.proofs.recurrence.last_of.Goals as goal

pub times-preserved : goal.times-preserved
times-preserved c =
    let first = rw (read_back (record { sfits = c.second_after.type_inv })) at c.in-Some.ensures in
    let same = read_back {z = c.in-Some.next} (search rules) in
    rw same (
      omega arith,
      one_more_counted _ c.times.invariant.1 c.second_after.ensures first refl,
    )

pub returns-in-None-clause-last : goal.returns-in-None-clause-last
returns-in-None-clause-last c =
    all_counted _ c.times.invariant.1 _ c.times.invariant.0 c.second_after.ensures refl (λ l one. one.in_years)
    (rw (read_back (record { sfits = c.second_after.type_inv })) at c.in-None.ensures)

pub returns-clause-last : goal.returns-clause-last
returns-clause-last c =
    whole_count _ c.times.invariant.1 _ c.times.invariant.0 c.times-test.false
