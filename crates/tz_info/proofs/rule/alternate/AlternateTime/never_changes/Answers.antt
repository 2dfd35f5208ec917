use Rattle.tz_info.proofs.{SteadyRules.{steady, steady_alike}, Words.{sym, ◌∙◌}}
use Rattle.tz_info.proofs.rule.alternate.AlternateTime.never_changes.Goals as goal

pub returns-then-self : goal.returns-then-self
returns-then-self c = λ _. rw (← c.self.view_is) (steady _ c.self.invariant.0 (sym c.self.invariant.4 ∙ c.if-self.true))

pub returns : goal.returns
returns c = λ same. rw (← c.self.view_is) (steady_alike _ (c.is_same_type.ensures.0 same))
