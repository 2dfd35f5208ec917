use Rattle.tz_info.proofs.Words.{zone_of_rule}
use Rattle.tz_write.proofs.{RuleTexts.written_zone, Words.{IsRule, Some, arith, on_err_weaker, rules, spelled_rule, ◌≡◌}}
use Rattle.tz_write.proofs.zone_text.TimeZoneToPosixTz.to_posix_tz.Goals as goal

pub returns-in-Some : goal.returns-in-Some
returns-in-Some c =
    let types = c.local_time_types-types.result.now in let rule = c.in-Some.rule.now in let fits : IsRule rule = search rules in
    let is : zone_of_rule types (Some rule) ≡ c.args.self.now = let alone = c.is_rule_alone.ensures.0 (search rules) in grind arith in
    let text = c.text_of_rule.ensures in rw (← is) (record {
      written = text.written;
      reason = text.reason;
      memory = on_err_weaker c.text_of_rule.result (λ has. (spelled_rule rule, (written_zone types (Some rule) fits has).gives)) text.memory;
    })
