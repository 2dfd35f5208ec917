use Rattle.tz_info.proofs.{WallPieces.Merging, Words.{together, ◌+◌, ◌≡◌}}
use Rattle.tz_info.proofs.zone.made.pieces.merged.Given as goal

abbrev pub invariant-loop-step : goal.invariant-loop-step
invariant-loop-step l = record {
  merging : Merging together l.before_first l.first l.before_last l.last l.pieces.items l.i l.j;
  step : l.i + l.j ≡ l._step;
}
