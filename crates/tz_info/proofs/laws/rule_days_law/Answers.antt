use Rattle.tz_info.proofs.{Words.{arith, floors}, RuleDays.{day_rises}}
use Rattle.tz_info.proofs.laws.rule_days_law.Goals as goal

pub returns-clause-rises : goal.returns-clause-rises
returns-clause-rises c = λ form time a b fits h. let rises = day_rises _ a b fits h in omega (arith, floors)
