use Rattle.zoned_time.specs.Choice.{out_of_range}
use Rattle.tests_pins.proofs.{Words.{arith, pos, refl}, SetClocks.{is_taken_below}}
use Rattle.tests_pins.proofs.choices.range.Goals as goal

pub returns-clause-below : goal.returns-clause-below
returns-clause-below c = out_of_range (pos 3_600) is_taken_below (λ inside. let low = inside.0 in absurd (omega (arith, low))) refl
