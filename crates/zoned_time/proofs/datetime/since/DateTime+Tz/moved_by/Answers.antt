use Rattle.naive_base.specs.Since.{later_by}
use Rattle.zoned_time.proofs.Words.{IsWide, Reading, ap, home_law_of, inl, numbers, reading, subst, wall_of, zoned, ◌∙◌}
use Rattle.zoned_time.proofs.CalendarLengths.{moved_to_first, never_moved, within_home}
use Rattle.std.specs.Prelude.{◌+◌, ◌≤◌}
use Rattle.zoned_time.proofs.datetime.since.DateTime+Tz.moved_by.Goals as goal

pub returns-in_err-later_by : goal.returns-in_err-later_by
returns-in_err-later_by g c =
    let m = wall_of c.args.self.now in let some : 1 ≤ c.args.months + c.args.days = grind numbers in
    let wide = subst (λ (l : Reading). IsWide l.s) c.local.ensures c.local.result.in_range.0 in
    let far = subst (λ l. ¬ (IsWide (later_by l c.args.months c.args.days).s)) c.local.ensures c.in_err-later_by.ensures in
    rw c.from_residual.ensures (record {
      some = some;
      none = never_moved (home_law_of g.Tz.TimeZone.meaning c.args.self.now).off (zoned c.args.self.now).utc m c.args.months c.args.days
          (within_home c.timezone.ensures.offsets (g.met.Tz.TimeZone.within_day c.timezone.result)) wide some far;
      far = inl far;
    })

pub returns : goal.returns
returns g c =
    let later = c.in_ok-later_by.ensures ∙ ap (λ l. later_by l c.args.months c.args.days) c.local.ensures in
    moved_to_first (g.Tz.TimeZone.law c.timezone.result) (home_law_of g.Tz.TimeZone.meaning c.args.self.now) c.timezone.ensures (zoned c.args.self.now).utc
    (wall_of c.args.self.now) c.args.months c.args.days (λ d. zoned d) c.first_at_or_after.result (grind numbers)
    (rw later at c.first_at_or_after.ensures)
