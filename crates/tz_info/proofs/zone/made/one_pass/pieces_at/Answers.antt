use Rattle.tz_info.proofs.{Fits.fits, Words.linear}
use Rattle.tz_info.proofs.zone.made.one_pass.pieces_at.Goals as goal

pub returns : goal.returns
returns c = grind (linear, fits)
