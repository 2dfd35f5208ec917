use Rattle.std.proofs.Common.{◌≡◌, drop}
use Rattle.naive_rrule.specs.RuleTexts.{is_word}
use Rattle.naive_rrule.proofs.rule_text.is_word.Given as goal

abbrev pub invariant-loop-at : goal.invariant-loop-at
invariant-loop-at l = is_word l.bytes l.word ≡ is_word (drop l.at l.bytes) (drop l.at l.word)
