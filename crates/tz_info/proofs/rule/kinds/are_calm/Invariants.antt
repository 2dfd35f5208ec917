use Rattle.tz_info.proofs.Words.{all_below, is_calm_kind, true, ◌≡◌}
use Rattle.tz_info.proofs.rule.kinds.are_calm.Given as goal

abbrev pub invariant-loop-kind : goal.invariant-loop-kind
invariant-loop-kind l = all_below l.kind (is_calm_kind l.starts l.ends) ≡ true
