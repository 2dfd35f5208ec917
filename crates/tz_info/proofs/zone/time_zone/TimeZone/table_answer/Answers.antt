use Rattle.tz_info.proofs.Fits.{fits}
use Rattle.tz_info.proofs.zone.time_zone.TimeZone.table_answer.Goals as goal

pub returns-clause-shown : goal.returns-clause-shown
returns-clause-shown c =
    let fl = c.ranges.local in
    rw (simp fits at c.answer.ensures.answer, ← c.self.view_is)
    (_, c.self.invariant.list, (c.self.invariant.index.answers c.args.local c.requires.local).wall)
