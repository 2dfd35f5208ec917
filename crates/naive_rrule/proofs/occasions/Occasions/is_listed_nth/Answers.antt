use Rattle.std.proofs.lemmas.Bool.{cases_order}
use Rattle.naive_base.proofs.Words.{arith, inl, inr, pos, rules, ◌≡◌, ◌∙◌, get_or}
use Rattle.naive_rrule.proofs.NthTimes.{any_default}
use Rattle.naive_rrule.proofs.occasions.Occasions.is_listed_nth.Goals as goal

pub loop-position-preserved : goal.loop-position-preserved
loop-position-preserved c = λ k less nth. elim (cases_order k c.loop-position.position-index) [
  | inl same ↦ (grind (arith, c.is_nth.ensures.1 (rw same at nth), c.if-is_nth.false))
  | inr (inl before) ↦ c.loop-position.invariant k before nth
  | inr (inr after) ↦ omega arith
]

pub returns : goal.returns
returns c = (
  λ no. absurd (search rules),
  λ own. absurd (
      let is : get_or c.args.self.now.rule.by_set_position.now own.listed.0 (pos 0) ≡ own.position =
      any_default _ own.listed.0 (pos 0) own.position own.listed.1 ∙ own.listed.2 in
      c.loop-position.invariant own.listed.0 (omega arith) (rw is own.nth)
      ),
)
