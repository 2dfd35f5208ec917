use Rattle.naive_base.specs.Clock.{clock_second}
use Rattle.zoned_ffi.proofs.Words.{Fits64, FitsSigned, IsInRange, arith, ints, pos, refl, rules, subst, sym, to_z-of_z, w32, ◌*ℤ◌, ◌+ℤ◌, ◌≡◌}
use Rattle.zoned_ffi.{proofs.FieldLaws.{local_is}, specs.Fields.{IsNoLocalOf, local_of_fields}}
use Rattle.zoned_ffi.proofs.fields.Fields.local.Goals as goal

pub returns-then-not-are_date_time : goal.returns-then-not-are_date_time
returns-then-not-are_date_time c = grind (arith, IsNoLocalOf.no_date_time)

pub returns-then-is_in_range : goal.returns-then-is_in_range
returns-then-is_in_range c =
    let f = c.args.self.now in
    let year : FitsSigned w32 f.year = search rules in let day : Fits64 c.day_number.result = search rules in
    let time : Fits64 c.from.result = search rules in
    let date_time = c.are_date_time.ensures.0 c.if-not-are_date_time.false in
    let from_is : c.from.result ≡ pos (clock_second f.hour f.minute f.second) = search rules in
    let days : Fits64 (c.day_number.result *ℤ pos 86_400) = omega (arith, ints) in
    let sum : Fits64 ((c.day_number.result *ℤ pos 86_400) +ℤ c.from.result) = omega (arith, ints) in
    let is = simp to_z-of_z at c.day_number.ensures.value in let range = simp to_z-of_z at c.is_in_range.ensures in grind (arith, ints, to_z-of_z, local_is)

pub returns-else-is_in_range : goal.returns-else-is_in_range
returns-else-is_in_range c =
    let f = c.args.self.now in
    let year : FitsSigned w32 f.year = search rules in let day : Fits64 c.day_number.result = search rules in
    let time : Fits64 c.from.result = search rules in
    let date_time = c.are_date_time.ensures.0 c.if-not-are_date_time.false in
    let from_is : c.from.result ≡ pos (clock_second f.hour f.minute f.second) = search rules in
    let days : Fits64 (c.day_number.result *ℤ pos 86_400) = omega (arith, ints) in
    let sum : Fits64 ((c.day_number.result *ℤ pos 86_400) +ℤ c.from.result) =
    omega (arith, ints) in
    let named : (c.day_number.result *ℤ pos 86_400) +ℤ c.from.result ≡ local_of_fields f =
    local_is f c.day_number.result c.from.result _ (simp to_z-of_z at c.day_number.ensures.value) from_is refl in
    let tested = simp to_z-of_z at c.is_in_range.ensures in
    IsNoLocalOf.outside date_time (λ inside. let t = tested.1 (subst IsInRange (sym named) inside) in cc)
