use Rattle.std.proofs.Common.{◌≡◌, ◌≤◌, drop}
use Rattle.naive_rrule.specs.RuleTexts.{number_from}
use Rattle.naive_rrule.proofs.rule_text.number.Given as goal

abbrev pub invariant-loop-byte : goal.invariant-loop-byte
invariant-loop-byte l = (number_from l.most 0 l.bytes ≡ number_from l.most l.value (drop l.byte-index l.bytes)) × (l.value ≤ l.most)
