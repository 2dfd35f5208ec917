use Rattle.tz_file.proofs.FilePieceLaws.{counted, uncounted}
use Rattle.tz_info.proofs.Words.{none-some, refl}
use Rattle.tz_info.proofs.zone.time_zone.TimeZone.file_counts.Goals as goal

pub returns-in-Ok : goal.returns-in-Ok
returns-in-Ok c d = counted _ _ _ _ d (rw c.new.ensures at c.in-Ok.ensures) refl refl

pub returns-in-Err : goal.returns-in-Err
returns-in-Err c d = (λ e. absurd (none-some d e), λ k. absurd (uncounted _ _ d (rw c.new.ensures at c.in-Err.ensures.0) k))
