use Rattle.std.proofs.Common.{◌++◌, ◌≡◌, drop, take}
use Rattle.naive_rrule.specs.RuleTexts.{after_of, front_of}
use Rattle.naive_rrule.proofs.rule_text.cut.Given as goal

abbrev pub invariant-loop-at : goal.invariant-loop-at
invariant-loop-at l = (front_of l.separator l.bytes ≡ take l.at l.bytes ++ front_of l.separator (drop l.at l.bytes))
    × (after_of l.separator l.bytes ≡ after_of l.separator (drop l.at l.bytes))
