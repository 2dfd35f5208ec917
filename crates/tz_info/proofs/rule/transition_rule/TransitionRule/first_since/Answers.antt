use Rattle.std.proofs.lemmas.Int.{clamps}
use Rattle.tz_info.proofs.{RuleReached.fixed_first, Words.{arith, ints}}
use Rattle.tz_info.proofs.rule.transition_rule.TransitionRule.first_since.Goals as goal

pub returns-in-Fixed-clause-first : goal.returns-in-Fixed-clause-first
returns-in-Fixed-clause-first c =
    rw c.in-Fixed.is (fixed_first _ _ _ _ c.requires.local c.requires.near c.offset.ensures.bound (grind (arith, ints, clamps)))
