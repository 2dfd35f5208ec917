use Rattle.zoned_ffi.proofs.{Words.{arith}, RuleStringLaws.{none_by, spelled_by, unspelled_by}}
use Rattle.zoned_ffi.proofs.rule_string.rule_string.Goals as goal

pub returns-in_default : goal.returns-in_default
returns-in_default c = grind (arith, none_by)

pub returns-in-Some-2 : goal.returns-in-Some-2
returns-in-Some-2 c = grind (arith, spelled_by)

pub returns-in-None : goal.returns-in-None
returns-in-None c = grind (arith, unspelled_by)
