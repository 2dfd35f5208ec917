use Rattle.tz_info.proofs.{Fits.fits, Words.arith}
use Rattle.tz_info.proofs.zone.made.index.Index.of_pieces.Goals as goal

pub returns : goal.returns
returns c = let fs = c.rule_from.type_inv in rw c.in_ok-pieces.ensures (simp fits (grind arith))
