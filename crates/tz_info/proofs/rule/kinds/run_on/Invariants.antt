use Rattle.tz_info.proofs.Words.{all_below, true, ◌≡◌}
use Rattle.tz_info.specs.Steps.Kinds.{runs_on}
use Rattle.tz_info.proofs.rule.kinds.run_on.Given as goal

abbrev pub invariant-loop-kind : goal.invariant-loop-kind
invariant-loop-kind l = all_below l.kind (runs_on l.firsts l.lasts) ≡ true
