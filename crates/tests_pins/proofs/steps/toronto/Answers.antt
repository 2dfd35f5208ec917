use Rattle.naive_plans.specs.{ClockSteps.{BeginsStep}, declared.clock_step.ClockStep.TheVariants.{Day}}
use Rattle.zoned_plans.specs.StepBounds.{AreStepBounds}
use Rattle.tests_pins.proofs.{Words.{AreSetAt, arith, floors, inl, inr, ints, neg_ℤ, pos, refl, ℤ}, SetFires.{from_set}}
use Rattle.tests_pins.proofs.SetSteps.{after_gap, bounds, within_day}
use Rattle.tests_pins.proofs.steps.toronto.Goals as goal

day : (off : ℤ → ℤ) → AreSetAt off (neg_ℤ (pos 1_601_753_400)) (neg_ℤ (pos 18_000)) (neg_ℤ (pos 14_400))
    → AreStepBounds off (BeginsStep Day) (neg_ℤ (pos 1_601_753_400)) (neg_ℤ (pos 1_601_753_400)) (neg_ℤ (pos 1_601_668_800))
day off set =
    bounds off (BeginsStep Day) (neg_ℤ (pos 1_601_753_400)) (neg_ℤ (pos 1_601_767_800)) (neg_ℤ (pos 1_601_769_600)) (neg_ℤ (pos 1_601_683_200))
    (neg_ℤ (pos 1_601_753_400)) (neg_ℤ (pos 1_601_668_800))
    (within_day off (neg_ℤ (pos 1_601_753_400)) (neg_ℤ (pos 18_000)) (neg_ℤ (pos 14_400)) set (omega (arith, ints), omega (arith, ints))
    (omega (arith, ints), omega (arith, ints)))
    (omega (arith, ints), omega (arith, ints))
    (after_gap off (neg_ℤ (pos 1_601_753_400)) (neg_ℤ (pos 18_000)) (neg_ℤ (pos 14_400)) (neg_ℤ (pos 1_601_753_400)) set
    (omega (arith, ints), omega (arith, ints)) (omega (arith, ints)) (omega (arith, ints)))
    (record {
      planned = record { on = tt; at = refl };
      not_after = omega (arith, ints);
      greatest = λ b _ own come. let begins = own.at in
          omega (arith, ints, floors, begins, come);
    })
    (omega (arith, ints), omega (arith, ints))
    (from_set off (neg_ℤ (pos 1_601_753_400)) (neg_ℤ (pos 18_000)) (neg_ℤ (pos 14_400)) (neg_ℤ (pos 1_601_769_600)) (neg_ℤ (pos 1_601_753_400)) set
    (omega (arith, ints), omega (arith, ints)) (omega (arith, ints)) (omega (arith, ints))
    (omega (arith, ints)) (inr refl))
    (record {
      planned = record { on = tt; at = refl };
      after = omega (arith, ints);
      least = λ b _ own later. let begins = own.at in
          omega (arith, ints, floors, begins, later);
    })
    (omega (arith, ints), omega (arith, ints))
    (from_set off (neg_ℤ (pos 1_601_753_400)) (neg_ℤ (pos 18_000)) (neg_ℤ (pos 14_400)) (neg_ℤ (pos 1_601_683_200)) (neg_ℤ (pos 1_601_668_800)) set
    (omega (arith, ints), omega (arith, ints)) (omega (arith, ints)) (omega (arith, ints))
    (omega (arith, ints)) (inl (omega (arith, ints))))

pub returns : goal.returns
returns c = day
