use Rattle.std.proofs.Common.{◌≡◌, drop}
use Rattle.naive_rrule.specs.RuleTexts.{word_of}
use Rattle.naive_rrule.proofs.rule_text.word_of.Given as goal

abbrev pub invariant-loop-value : goal.invariant-loop-value
invariant-loop-value g l = word_of g.T.Word.spelling l.all l.bytes ≡ word_of g.T.Word.spelling (drop l.value-index l.all) l.bytes
