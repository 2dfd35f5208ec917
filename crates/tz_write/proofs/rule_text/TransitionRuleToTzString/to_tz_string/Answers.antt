use Rattle.tz_write.proofs.{RuleTexts.{written}, Words.{rules}}
use Rattle.tz_write.proofs.rule_text.TransitionRuleToTzString.to_tz_string.Goals as goal

pub returns-clause-written : goal.returns-clause-written
returns-clause-written c = rw c.in_ok-text.ensures
    (written _ c.can_be_spelled.ensures.rule (c.can_be_spelled.ensures.answer.0 (search rules)) _ c.is_plain.ensures)
