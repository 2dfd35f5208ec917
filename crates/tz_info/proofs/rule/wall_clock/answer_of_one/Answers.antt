use Rattle.tz_info.proofs.{QuestionLaws.asked_fixed, Words.{arith, ints}}
use Rattle.tz_info.proofs.rule.wall_clock.answer_of_one.Goals as goal

pub returns-then-second_showing-from-clause-counted : goal.returns-then-second_showing-from-clause-counted
returns-then-second_showing-from-clause-counted c = grind (arith, ints, asked_fixed)

pub returns-clause-found : goal.returns-clause-found
returns-clause-found c = grind (arith, ints)

pub returns-clause-counted : goal.returns-clause-counted
returns-clause-counted c = grind (arith, ints, asked_fixed)
