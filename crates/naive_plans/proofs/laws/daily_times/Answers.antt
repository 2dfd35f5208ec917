use Rattle.std.proofs.{Common.{arith, unsigned_abs, ◌-ℤ◌}, lemmas.Int.{ints}}
use Rattle.naive_plans.proofs.laws.daily_times.Goals as goal

pub returns-clause-no_others : goal.returns-clause-no_others
returns-clause-no_others c = λ first at day second planned. (unsigned_abs (day -ℤ first), omega (arith, ints, planned.from), planned.same)
