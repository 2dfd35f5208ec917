use Rattle.naive_base.proofs.Words.{ints, rules, to_z-of_z, arith}
use Rattle.naive_plans.proofs.Selected.{last_kept, passed_back}
use Rattle.naive_plans.proofs.sets.last_selected.Goals as goal

pub returns-then-is_kept : goal.returns-then-is_kept
returns-then-is_kept g c = search (rules, to_z-of_z, last_kept)

pub times-preserved : goal.times-preserved
times-preserved g c = search (arith, ints, to_z-of_z, passed_back)
