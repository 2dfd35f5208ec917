use Rattle.naive_base.proofs.Words.{to_z-of_z, arith, refl, rules}
use Rattle.naive_rrule.proofs.NthTimes.{Front, not_zeroth, told_nth}
use Rattle.naive_rrule.proofs.occasions.Occasions.is_nth.Goals as goal

pub before_nth-requires : goal.before_nth-requires
before_nth-requires c = c.if-is_from_front.ensures.0 refl

pub after_nth-requires : goal.after_nth-requires
after_nth-requires c = c.if-is_from_end.ensures.0 refl

pub returns-then-is_from_front : goal.returns-then-is_from_front
returns-then-is_from_front c = grind (arith, to_z-of_z, Front, told_nth)

pub returns-then-is_from_end : goal.returns-then-is_from_end
returns-then-is_from_end c = grind (arith, to_z-of_z, told_nth)

pub returns : goal.returns
returns c = search (rules, to_z-of_z, not_zeroth)
