use Rattle.zoned_ffi.proofs.Words.{IsNoInstant, arith, inl, inr, ints, refl}
use Rattle.zoned_ffi.proofs.pins.column_choice_numbers.Goals as goal

pub returns-clause-instant : goal.returns-clause-instant
returns-clause-instant c z choice none = (21, IsNoInstant.refused 21 (omega (arith, ints), omega (arith, ints)) none, inl (refl, refl))

pub returns-clause-no_time : goal.returns-clause-no_time
returns-clause-no_time c z choice none =
    inr (λ same. omega (arith, ints), inr ((21, IsNoInstant.refused 21 (omega (arith, ints), omega (arith, ints)) none, inl (refl, refl)), refl))
