use Rattle.tz_info.proofs.ExtremeLaws.{rule_joined}
use Rattle.tz_info.proofs.zone.made.extremes.extremes_of.Goals as goal

pub returns-in-Some-clause-extremes : goal.returns-in-Some-clause-extremes
returns-in-Some-clause-extremes c =
    rule_joined _ _ _ _ _ c.in-Some.is
    c.extremes_of_types-found.ensures c.with_rule.ensures.joined
