use Rattle.tz_saving.proofs.Words.{IsWalkedTo, IsWanted, is_forward}
use Rattle.tz_saving.proofs.sides.nearest_turn.Given as goal

abbrev pub invariant-changes : goal.invariant-changes
invariant-changes l = IsWalkedTo (is_forward l.side) l.zone (IsWanted l.wanted) l.left l.second l.reached

abbrev pub decreases-changes : goal.decreases-changes
decreases-changes l = l.left
