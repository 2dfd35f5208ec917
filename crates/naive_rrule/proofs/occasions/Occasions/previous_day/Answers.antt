use Rattle.naive_base.proofs.Words.{arith, floor_div, ints, rules, to_z-of_z, ◌≡◌}
use Rattle.naive_plans.proofs.ForCallers.{read_back}
use Rattle.naive_rrule.proofs.OccasionsBack.{before_month, in_month}
use Rattle.naive_rrule.proofs.occasions.Occasions.previous_day.Goals as goal

pub returns-clause-none : goal.returns-clause-none
returns-clause-none c =
    let fits = c.ranges.day in let same : c.day_of.result ≡ floor_div c.args.self.now.start 86_400 = search rules in
    λ d on less. rw (read_back (record { sfits = c.days_earlier.type_inv }))
    (before_month _ (floor_div c.args.self.now.start 86_400) c.args.day d c.days_earlier.result _ _ _
    (simp to_z-of_z at c.date_of-date.ensures.month)
    (simp to_z-of_z at c.date_of-date.ensures.day) (rw same at (rw (read_back (record { sfits = c.day_of.type_inv })) at
    c.date_of-first.ensures.month))
    (simp to_z-of_z at c.days_earlier.ensures) (λ has. grind (arith, c.has_month.ensures.1 has, c.if-has_month.false)) on less)

pub days_earlier-requires-clause-days : goal.days_earlier-requires-clause-days
days_earlier-requires-clause-days c = search (rules, to_z-of_z, in_month)

pub returns-clause-near : goal.returns-clause-near
returns-clause-near c =
    let short = in_month _ _ (simp (to_z-of_z, c.ranges.day) at c.date_of-date.ensures.day) in
    let is = simp (to_z-of_z, c.ranges.day) at c.days_earlier.ensures in
    rw (read_back (record { sfits = c.days_earlier.type_inv })) (omega (arith, ints))
