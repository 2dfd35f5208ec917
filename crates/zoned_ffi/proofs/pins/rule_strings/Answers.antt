use Rattle.zoned_ffi.{proofs.Words.{true}, specs.Texts.{IsRuleString}}
use Rattle.zoned_ffi.proofs.pins.rule_strings.Goals as goal

pub returns-clause-no_rule : goal.returns-clause-no_rule
returns-clause-no_rule c = IsRuleString.no_rule

pub returns-clause-spelled : goal.returns-clause-spelled
returns-clause-spelled c rule text written = IsRuleString.spelled rule text true written
