use Rattle.naive_plans.specs.{ClockSteps.{BeginsStep}, declared.{clock_step.ClockStep.TheVariants.{Part}, part_of_day.PartOfDay.{PartOfDay}}}
use Rattle.zoned_plans.specs.StepBounds.{AreStepBounds}
use Rattle.tests_pins.proofs.{Words.{AreSetAt, arith, floors, inl, ints, pos, refl, ℤ, ◌≡◌}, SetFires.{before_set, from_set, in_fold}}
use Rattle.tests_pins.proofs.SetSteps.{bounds, within_day}
use Rattle.tests_pins.proofs.steps.lord_howe.Goals as goal

hour_of_one : (off : ℤ → ℤ) (hour : PartOfDay) → hour.seconds ≡ 3_600 → AreSetAt off (pos 1_617_462_000) (pos 39_600) (pos 37_800)
    → AreStepBounds off (BeginsStep (Part hour)) (pos 1_617_462_900) (pos 1_617_458_400) (pos 1_617_463_800)
hour_of_one off hour is set =
    bounds off (BeginsStep (Part hour)) (pos 1_617_462_900) (pos 1_617_501_599) (pos 1_617_498_000) (pos 1_617_501_600) (pos 1_617_458_400) (pos 1_617_463_800)
    (within_day off (pos 1_617_462_000) (pos 39_600) (pos 37_800) set (omega (arith, ints), omega (arith, ints)) (omega (arith, ints), omega (arith, ints)))
    (omega (arith, ints), omega (arith, ints))
    (in_fold off (pos 1_617_462_000) (pos 39_600) (pos 37_800) (pos 1_617_462_900) set (omega (arith, ints), omega (arith, ints))
    (omega (arith, ints)) (omega (arith, ints)))
    (record {
      planned = record { on = tt; at = rw is refl };
      not_after = omega (arith, ints);
      greatest = λ b _ own come. let begins = rw is at own.at in
          omega (arith, ints, floors, begins, come);
    })
    (omega (arith, ints), omega (arith, ints))
    (before_set off (pos 1_617_462_000) (pos 39_600) (pos 37_800) (pos 1_617_498_000) (pos 1_617_458_400) set
    (omega (arith, ints), omega (arith, ints)) (omega (arith, ints)) refl)
    (record {
      planned = record { on = tt; at = rw is refl };
      after = omega (arith, ints);
      least = λ b _ own later. let begins = rw is at own.at in
          omega (arith, ints, floors, begins, later);
    })
    (omega (arith, ints), omega (arith, ints))
    (from_set off (pos 1_617_462_000) (pos 39_600) (pos 37_800) (pos 1_617_501_600) (pos 1_617_463_800) set (omega (arith, ints), omega (arith, ints))
    (omega (arith, ints)) (omega (arith, ints))
    (omega (arith, ints)) (inl (omega (arith, ints))))

pub returns : goal.returns
returns c = hour_of_one
