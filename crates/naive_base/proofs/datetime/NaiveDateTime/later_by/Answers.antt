use Rattle.naive_base.proofs.{Words.{arith, floors, of_z, reading, to_z, w64}, Since.{at_later_day}}
use Rattle.naive_base.proofs.datetime.NaiveDateTime.later_by.Goals as goal

pub returns : goal.returns
returns c =
    at_later_day (reading c.args.self.now) c.args.months c.args.days (to_z w64 (of_z w64 c.day_later_by.result)) (λ r. reading r) c.on_wide_day.result
    (omega (arith, floors, c.day_later_by.ensures.value, c.day_later_by.ensures.bound)) c.on_wide_day.ensures
