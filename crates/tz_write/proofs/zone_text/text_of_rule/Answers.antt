use Rattle.tz_write.proofs.{RuleTexts.written_zone, Words.{Some, rules}}
use Rattle.tz_write.proofs.zone_text.text_of_rule.Goals as goal

pub returns-clause-written : goal.returns-clause-written
returns-clause-written c = rw c.in_ok-text_of.ensures (written_zone _ (Some c.args.rule.now) c.requires (c.has_zone_text.ensures.0 (search rules)))
