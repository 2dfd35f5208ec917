use Rattle.naive_base.proofs.{Words.{reading}, Since.{start_is_wide}}
use Rattle.naive_base.proofs.datetime.NaiveDateTime.months_and_days_since.Goals as goal

pub unreachable-requires : goal.unreachable-requires
unreachable-requires c =
    c.in-None.ensures (start_is_wide (reading c.args.self.now) (reading c.args.base.now) c.months_or_none-months.result c.args.self.now.in_range.0
    c.args.base.now.in_range.0 c.months_or_none-months.ensures)
