use Rattle.tz_info.proofs.{ChangeLaws.{shorter, steps_last, steps_none}, Fits.fits, Words.linear}
use Rattle.tz_info.proofs.zone.ask.all_changes.ChangesDoubleEndedIterator.next_back.Goals as goal

pub returns-clause-steps : goal.returns-clause-steps
returns-clause-steps c = grind (linear, fits, steps_last)

pub returns-clause-goes : goal.returns-clause-goes
returns-clause-goes c = grind (linear, fits, returns-clause-steps, shorter)

pub returns-in_err-change : goal.returns-in_err-change
returns-in_err-change c = grind (linear, steps_none)
