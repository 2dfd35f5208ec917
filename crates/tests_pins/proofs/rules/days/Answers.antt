use Rattle.tz_info.proofs.RuleDays.{rule_day_closed}
use Rattle.tests_pins.proofs.{Words.{arith, closed_day}, Computed.{calendar}}
use Rattle.tests_pins.proofs.rules.days.Goals as goal

pub returns : goal.returns
unfolding calendar closed_day
returns c = search (rule_day_closed, arith)
