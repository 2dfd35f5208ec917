use Rattle.tz_info.proofs.{WallSegments.pieces_joined, Words.arith}
use Rattle.tz_info.proofs.zone.made.segments.+pieces_of.Goals as goal

pub returns : goal.returns
returns t c =
    rw c.together.ensures (pieces_joined c.requires.table.rising (omega arith) (omega arith)
    c.in_ok-first.ensures c.in_ok-last.ensures (rw (c.deref.ensures.value, c.deref-2.ensures.value) at c.in_ok-pieces.ensures))
