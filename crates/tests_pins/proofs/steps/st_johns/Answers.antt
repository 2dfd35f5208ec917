use Rattle.naive_plans.specs.{ClockSteps.{BeginsStep}, declared.clock_step.ClockStep.TheVariants.{Day}}
use Rattle.zoned_plans.specs.StepBounds.{AreStepBounds}
use Rattle.tests_pins.proofs.{Words.{AreSetAt, arith, floors, inl, ints, neg_ℤ, pos, refl, ℤ}, SetFires.{before_set, from_set, in_fold}}
use Rattle.tests_pins.proofs.SetSteps.{bounds, within_day}
use Rattle.zoned_plans.proofs.StepTimes.{once}
use Rattle.tests_pins.proofs.steps.st_johns.Goals as goal

day : (off : ℤ → ℤ) → AreSetAt off (pos 1_130_639_460) (neg_ℤ (pos 9_000)) (neg_ℤ (pos 12_600))
    → AreStepBounds off (BeginsStep Day) (pos 1_130_641_320) (pos 1_130_639_400) (pos 1_130_729_400)
day off set =
    bounds off (BeginsStep Day) (pos 1_130_641_320) (pos 1_130_630_459) (pos 1_130_630_400) (pos 1_130_716_800) (pos 1_130_639_400) (pos 1_130_729_400)
    (within_day off (pos 1_130_639_460) (neg_ℤ (pos 9_000)) (neg_ℤ (pos 12_600)) set (omega (arith, ints), omega (arith, ints))
    (omega (arith, ints), omega (arith, ints)))
    (omega (arith, ints), omega (arith, ints))
    (in_fold off (pos 1_130_639_460) (neg_ℤ (pos 9_000)) (neg_ℤ (pos 12_600)) (pos 1_130_641_320) set (omega (arith, ints), omega (arith, ints))
    (omega (arith, ints)) (omega (arith, ints)))
    (record {
      planned = record { on = tt; at = refl };
      not_after = omega (arith, ints);
      greatest = λ b _ own come. let begins = own.at in
          omega (arith, ints, floors, begins, come);
    })
    (omega (arith, ints), omega (arith, ints))
    (before_set off (pos 1_130_639_460) (neg_ℤ (pos 9_000)) (neg_ℤ (pos 12_600)) (pos 1_130_630_400) (pos 1_130_639_400) set
    (omega (arith, ints), omega (arith, ints)) (omega (arith, ints)) refl)
    (record {
      planned = record { on = tt; at = refl };
      after = omega (arith, ints);
      least = λ b _ own later. let begins = own.at in
          omega (arith, ints, floors, begins, later);
    })
    (omega (arith, ints), omega (arith, ints))
    (from_set off (pos 1_130_639_460) (neg_ℤ (pos 9_000)) (neg_ℤ (pos 12_600)) (pos 1_130_716_800) (pos 1_130_729_400) set
    (omega (arith, ints), omega (arith, ints)) (omega (arith, ints)) (omega (arith, ints))
    (omega (arith, ints)) (inl (omega (arith, ints))))

pub returns : goal.returns
returns c = record {
  day = day;
  only = λ off begin end set h. once h (day off set);
}
