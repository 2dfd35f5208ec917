use Rattle.tz_info.proofs.{TzFileLaws.next_later, Words.{linear, pieces_of}}
use Rattle.tz_info.proofs.file.place.first_not_later.Goals as goal

pub loop-k-preserved : goal.loop-k-preserved
loop-k-preserved c = next_later (pieces_of c.args.pieces.now) _ _ _ c.loop-k.invariant c.time_at.ensures
    c.time_at-in-loop-k.ensures (omega linear)
