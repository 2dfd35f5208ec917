use Rattle.tz_info.proofs.{Fits.fits, TableLaws.table_typed, WallSegments.{indexes_below, table_first}, Words.{ap, arith, linear, sym, ◌∙◌}}
use Rattle.tz_info.proofs.zone.time_zone.TimeZone.answer_after.Goals as goal

pub types_shown-table-requires : goal.types_shown-table-requires
types_shown-table-requires c = rw (c.deref.ensures.value, ap (λ z. z.types) c.self.view_is) (grind (arith, indexes_below))

pub try_rule-requires-clause-seen : goal.try_rule-requires-clause-seen
try_rule-requires-clause-seen c =
    let fl = c.ranges.local in
    simp fits (table_first _ _ _ _ (ap (λ z. z.rule) (sym c.self.view_is) ∙ c.in-Some.is)
    (grind (linear, fits, table_typed)))
