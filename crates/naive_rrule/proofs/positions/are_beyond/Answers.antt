use Rattle.naive_base.proofs.Words.{arith}
use Rattle.naive_rrule.proofs.positions.are_beyond.Goals as goal

pub returns : goal.returns
returns c _ n listed =
    rw listed.2 at (c.loop-position.invariant listed.0 n (omega arith))
