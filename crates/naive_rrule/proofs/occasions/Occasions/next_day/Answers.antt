use Rattle.naive_base.proofs.Words.{arith, floor_div, rules, to_z-of_z, ◌≡◌}
use Rattle.naive_plans.proofs.ForCallers.{read_back}
use Rattle.naive_rrule.proofs.OccasionWalk.{after_month}
use Rattle.naive_rrule.proofs.occasions.Occasions.next_day.Goals as goal

pub returns-clause-none : goal.returns-clause-none
returns-clause-none c =
    let fits = c.ranges.day in let same : c.day_of.result ≡ floor_div c.args.self.now.start 86_400 = search rules in
    λ d on later. rw (read_back (record { sfits = c.days_later.type_inv }))
    (after_month _ (floor_div c.args.self.now.start 86_400) c.args.day d c.days_later.result _ _ _ _ _
    (simp to_z-of_z at c.date_of-date.ensures.year) (simp to_z-of_z at c.date_of-date.ensures.month)
    (simp to_z-of_z at c.date_of-date.ensures.day) (rw same at (rw (read_back (record { sfits = c.day_of.type_inv })) at
    c.date_of-first.ensures.month)) c.month_length.ensures.value
    (simp to_z-of_z at c.days_later.ensures) (λ has. grind (arith, c.has_month.ensures.1 has, c.if-has_month.false)) on later)
