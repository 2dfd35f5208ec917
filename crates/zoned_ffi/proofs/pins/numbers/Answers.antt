use Rattle.zoned_ffi.specs.{Kinds.{kind_number}, Refusals.{Unknown_kind}, declared.kind.Kind.{Kind}}
use Rattle.zoned_ffi.proofs.Words.{arith, ◌≡◌}
use Rattle.zoned_ffi.proofs.pins.numbers.Goals as goal

not_three : (kind : Kind) → 3 ≡ kind_number kind → ⊥
not_three kind e = grind arith

pub returns-clause-kind_3 : goal.returns-clause-kind_3
returns-clause-kind_3 c bytes = Unknown_kind (λ kind. not_three kind.0 kind.1)
