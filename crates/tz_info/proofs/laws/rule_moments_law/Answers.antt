use Rattle.tz_info.proofs.RuleChanges.{ends, starts}
use Rattle.tz_info.proofs.laws.rule_moments_law.Goals as goal

pub returns : goal.returns
returns c = record { starts = starts; ends = ends }
