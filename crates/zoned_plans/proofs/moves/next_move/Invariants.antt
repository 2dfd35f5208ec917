use Rattle.zoned_plans.proofs.Words.{pos, unsigned_abs, zoned, ◌-ℤ◌}
use Rattle.zoned_plans.proofs.RunMoves.{IsPassed}
use Rattle.zoned_plans.proofs.moves.next_move.Given as goal

abbrev pub invariant-runs : goal.invariant-runs
invariant-runs g l = IsPassed (g.Old.TimeZone.law l.old).off (g.New.TimeZone.law l.new).off (g.P.Plan.planned l.plan) (zoned l.after).utc.s (zoned l.from).utc.s

abbrev pub decreases-runs : goal.decreases-runs
decreases-runs g l = unsigned_abs (pos 8_210_266_876_800 -ℤ (zoned l.from).utc.s)
