use Rattle.tz_info.proofs.{Fits.fits, SegmentEndLaws.reached_more, Words.arith}
use Rattle.tz_info.proofs.zone.ask.segment_search.first_reaching.Goals as goal

pub returns-clause-first : goal.returns-clause-first
returns-clause-first c = grind (arith, fits, reached_more)
