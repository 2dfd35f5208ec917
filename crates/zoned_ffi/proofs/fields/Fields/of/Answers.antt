use Rattle.zoned_ffi.proofs.{Words.{arith, Fits64, FitsSigned, refl, rules, to_z-of_z, w32}, FieldLaws.{fields_are}}
use Rattle.zoned_ffi.proofs.fields.Fields.of.Goals as goal

pub returns : goal.returns
returns c =
    let local = c.ranges.local in let day : Fits64 c.day_of-day.result = search rules in
    let year : FitsSigned w32 c.date_of-date.result.year = search rules in
    simp to_z-of_z (fields_are _ _ _ _ (simp to_z-of_z at c.day_of-day.ensures) (simp to_z-of_z at c.time_of-time.ensures)
    c.date_of-date.ensures.date (simp to_z-of_z at c.date_of-date.ensures.number) (simp to_z-of_z at c.date_of-date.ensures.year)
    refl refl refl (simp to_z-of_z at c.weekday_of.ensures.value) (grind (arith, to_z-of_z)))
