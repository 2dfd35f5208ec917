use Rattle.zoned_time.proofs.{Words.{ap, home_law_of, reading, zoned, ◌∙◌}, CalendarLengths.{resolved_at_home}}
use Rattle.zoned_time.proofs.datetime.since.DateTime+Tz.with_naive_local.Goals as goal

pub returns-in-None : goal.returns-in-None
returns-in-None g c =
    let k = c.fix.ensures ∙ ap g.Tz.Offset.Offset.seconds c.offset.ensures in
    resolved_at_home (g.Tz.TimeZone.law c.timezone-zone.result) (home_law_of g.Tz.TimeZone.meaning c.args.self.now) c.timezone-zone.ensures
    (reading c.args.local) (g.Tz.Offset.Offset.seconds c.args.self.now.offset) c.args.choice (λ d. zoned d) c.resolve.result (rw k at c.in-None.ensures)
    c.resolve.ensures
