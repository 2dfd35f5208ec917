use Rattle.zonedump_lib.proofs.{CitedWords.{counts_text, ended_line, leap_lines, on_ok_weaker, rule_text, period_text}, TableLaws.{four_pieces}}
use Rattle.zonedump_lib.proofs.tables.push_head.Goals as goal

pub returns : goal.returns
returns c =
    let rule = rw c.rule.ensures at c.in_ok-writeln-2.ensures.bytes in
    let leaps = rw c.leap_seconds.ensures at c.in_ok-push_leap_seconds.ensures in
    on_ok_weaker c.writeln-3.result (λ period. four_pieces _ _ _ _ _ (ended_line (counts_text c.args.zone.now)) (ended_line (rule_text c.args.zone.now))
    (leap_lines c.args.zone.now.leaps) (ended_line (period_text c.args.period.first c.args.period.last c.args.count)) c.in_ok-writeln.ensures.bytes rule
    leaps period) c.writeln-3.ensures.bytes
