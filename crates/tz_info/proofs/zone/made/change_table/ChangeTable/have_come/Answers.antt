use Rattle.tz_info.proofs.{Fits.fits, Prefixes.any, SegmentLaws.{come_by_time, place_most}, Words.{AreRising, and_parts, linear}}
use Rattle.tz_info.proofs.zone.made.change_table.ChangeTable.have_come.Goals as goal

pub returns : goal.returns
returns c = λ t.
    let rising : AreRising c.args.self.now.items = rw (← c.self.view_is) c.len.ensures.rising in
    let (since, until) = and_parts _ _ t in let last = c.is_since.ensures since in let next = c.is_until.ensures until in
    let come = come_by_time _ c.args.second c.args.count any rising in grind (linear, fits, place_most, come_by_time, any)
