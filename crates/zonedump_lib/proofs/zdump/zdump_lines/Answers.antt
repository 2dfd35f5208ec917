use Rattle.zonedump_lib.proofs.{CitedWords.{TypeAt}, TableLaws.{in_years}}
use Rattle.zonedump_lib.proofs.zdump.zdump_lines.Goals as goal

pub push_zdump-requires : goal.push_zdump-requires
push_zdump-requires c = rw c.as_slice-listed.ensures.value
    (in_years (TypeAt c.args.zone.now) c.args.period.first c.args.period.last c.in_ok-changes.changes.items c.args.period.in_range c.in_ok-changes.ensures)
