use Rattle.naive_base.proofs.Words.{arith, rules, to_z-of_z, ◌∙◌}
use Rattle.naive_plans.proofs.ForCallers.{read_back}
use Rattle.naive_rrule.proofs.RuleTimes.{last_planned, none_planned}
use Rattle.naive_rrule.proofs.recurrence.RecurrenceReversiblePlan.last_until.Goals as goal

pub returns-in-None : goal.returns-in-None
returns-in-None c = grind (arith, to_z-of_z, none_planned)

pub returns-in-Some : goal.returns-in-Some
returns-in-Some c =
    let own = c.args.self.now in let last_is = read_back {z = own.last} (search rules) in
    let most = rw (read_back (record { sfits = c.secs_since_epoch.type_inv }), last_is, c.secs_since_epoch.ensures) at c.earlier_second.ensures.most in
    let both = rw (read_back (record { sfits = c.secs_since_epoch.type_inv }), last_is, c.secs_since_epoch.ensures) at c.earlier_second.ensures.not_after in
    let last = last_planned both most (rw (read_back
    (record { sfits = c.earlier_second.type_inv })) at c.in-Some.ensures) in
    let same = read_back {z = c.in-Some.second} (search rules) in
    let is = c.local_at.ensures ∙ same in rw is last
