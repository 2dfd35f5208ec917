use Rattle.naive_base.proofs.Words.{arith, floor_mod, rules, ◌≡◌}
use Rattle.naive_rrule.proofs.PeriodsOfDay.{never_met}
use Rattle.naive_rrule.proofs.occasions.Occasions.has_no_period.Goals as goal

pub returns : goal.returns
returns c _ =
    let step = c.common_step-step.ensures in let same : c.second_of.result ≡ floor_mod c.args.self.now.start 86_400 = search rules in
    never_met _ _ _ _ c.requires step.1 step.2
    (λ k less alike. c.loop-period.invariant k (omega arith) (rw same alike))
