use Rattle.tz_info.proofs.Words.{linear}
use Rattle.tz_info.proofs.zone.ask.all_changes.Changes.nearest.Goals as goal

pub returns-then-forward : goal.returns-then-forward
returns-then-forward c = grind linear

pub returns-else-forward : goal.returns-else-forward
returns-else-forward c = grind linear
