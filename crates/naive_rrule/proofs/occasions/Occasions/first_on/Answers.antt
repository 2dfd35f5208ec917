use Rattle.naive_base.proofs.Words.{arith, rules, to_z-of_z}
use Rattle.naive_rrule.proofs.OccasionWalk.{with_date}
use Rattle.naive_rrule.proofs.occasions.Occasions.first_on.Goals as goal

pub returns : goal.returns
returns c = with_date _ _ _ _ _ (search rules)
    (simp (to_z-of_z, c.ranges.day) at c.first_time.ensures)

pub returns-then-not-has_date : goal.returns-then-not-has_date
returns-then-not-has_date c = grind (arith, to_z-of_z)
