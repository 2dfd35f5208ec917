use Rattle.std.proofs.Common.{SFits}
use Rattle.naive_base.proofs.Words.{arith, floor_div, ints, neg_ℤ, of_z, pos, to_z, to_z-of_z, w64, ◌*ℤ◌, ◌≡◌, ◌≤ℤ◌}
use Rattle.naive_plans.proofs.ForCallers.{read_back}
use Rattle.naive_rrule.proofs.Periods.{year_by_month}
use Rattle.naive_rrule.proofs.rule.RecurrenceRule.start_of.Goals as goal

months : (c : goal.After-start_of_month) → to_z w64 (of_z w64 (to_z w64 (of_z w64 c.args.period) *ℤ pos 12)) ≡ c.args.period *ℤ pos 12
months c =
    let fits = c.ranges.period in let low : neg_ℤ (pos 1_100_000_000) ≤ℤ c.args.period = rw c.in-Yearly.is at c.requires.0 in
    let whole : SFits w64 (c.args.period *ℤ pos 12) = omega (arith, ints) in
    simp to_z-of_z

pub returns-in-Yearly-clause-later : goal.returns-in-Yearly-clause-later
returns-in-Yearly-clause-later c = λ l from.
    rw (read_back (record { sfits = c.start_of_month.type_inv }))
    (c.start_of_month.ensures.later l (rw (months c) ((year_by_month _ (floor_div l 86_400)).0 (rw c.in-Yearly.is at from))))

pub returns-in-Yearly-clause-earlier : goal.returns-in-Yearly-clause-earlier
returns-in-Yearly-clause-earlier c = λ l in_years before.
    rw (read_back (record { sfits = c.start_of_month.type_inv }))
    (c.start_of_month.ensures.earlier l in_years (rw (months c) ((year_by_month _ (floor_div l 86_400)).1 (rw c.in-Yearly.is at before))))
