use Rattle.zoned_ffi.{proofs.{Words.{arith, refl, to_z-of_z}, FieldLaws.{kept_inside}}, specs.Fields.{AreNoFieldsAt}}
use Rattle.zoned_ffi.proofs.fields.answer_fields.Goals as goal

pub returns-in-Err-clause-refused : goal.returns-in-Err-clause-refused
returns-in-Err-clause-refused c some =
    let instant = c.ranges.instant in
    (AreNoFieldsAt.no_type (simp to_z-of_z at c.in-Err.ensures.0), refl)

pub returns-in-Ok-clause-refused : goal.returns-in-Ok-clause-refused
returns-in-Ok-clause-refused c = grind (arith, to_z-of_z, AreNoFieldsAt.outside, kept_inside)
