use Rattle.tz_info.proofs.Words.{all_below, true, ◌≡◌}
use Rattle.tz_info.specs.Steps.Kinds.{is_one_moment}
use Rattle.tz_info.proofs.rule.kinds.are_one_moment.Given as goal

abbrev pub invariant-loop-kind : goal.invariant-loop-kind
invariant-loop-kind l = all_below l.kind (is_one_moment l.starts l.ends) ≡ true
