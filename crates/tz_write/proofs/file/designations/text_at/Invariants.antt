use Rattle.tz_write.proofs.Words.{drop, is_not_zero, run_of, take, ◌++◌, ◌≡◌}
use Rattle.tz_write.proofs.file.designations.text_at.Given as goal

abbrev pub invariant-loop-end : goal.invariant-loop-end
invariant-loop-end l = run_of is_not_zero l.rest ≡ take l.end l.rest ++ run_of is_not_zero (drop l.end l.rest)
