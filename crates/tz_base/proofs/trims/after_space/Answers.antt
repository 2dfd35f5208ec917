use Rattle.tz_base.proofs.TrimLaws.{after_counted}
use Rattle.tz_base.proofs.trims.after_space.Goals as goal

pub returns : goal.returns
returns c = after_counted _ _ c.trim_ascii_start.ensures.value
