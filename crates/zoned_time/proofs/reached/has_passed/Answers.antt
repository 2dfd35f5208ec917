use Rattle.zoned_time.proofs.{ReachedTimes.{by_test, passed_first}, Words.{rules, to_z-of_z}}
use Rattle.zoned_time.proofs.reached.has_passed.Goals as goal

pub returns : goal.returns
returns g c = search (rules, to_z-of_z, by_test, passed_first)
