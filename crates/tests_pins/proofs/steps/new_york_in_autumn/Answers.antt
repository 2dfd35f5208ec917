use Rattle.naive_plans.specs.{ClockSteps.{BeginsStep}, declared.{clock_step.ClockStep.TheVariants.{Part}, part_of_day.PartOfDay.{PartOfDay}}}
use Rattle.zoned_plans.specs.StepBounds.{AreStepBounds}
use Rattle.tests_pins.proofs.{Words.{AreSetAt, arith, floors, inl, ints, neg_ℤ, pos, refl, ℤ, ◌≡◌}, SetFires.{before_set, from_set, in_fold}}
use Rattle.tests_pins.proofs.SetSteps.{bounds, within_day}
use Rattle.tests_pins.proofs.steps.new_york_in_autumn.Goals as goal

hour_of_one : (off : ℤ → ℤ) (hour : PartOfDay) → hour.seconds ≡ 3_600 → AreSetAt off (pos 1_636_264_800) (neg_ℤ (pos 14_400)) (neg_ℤ (pos 18_000))
    → AreStepBounds off (BeginsStep (Part hour)) (pos 1_636_266_600) (pos 1_636_261_200) (pos 1_636_268_400)
hour_of_one off hour is set =
    bounds off (BeginsStep (Part hour)) (pos 1_636_266_600) (pos 1_636_250_399) (pos 1_636_246_800) (pos 1_636_250_400) (pos 1_636_261_200) (pos 1_636_268_400)
    (within_day off (pos 1_636_264_800) (neg_ℤ (pos 14_400)) (neg_ℤ (pos 18_000)) set (omega (arith, ints), omega (arith, ints))
    (omega (arith, ints), omega (arith, ints)))
    (omega (arith, ints), omega (arith, ints))
    (in_fold off (pos 1_636_264_800) (neg_ℤ (pos 14_400)) (neg_ℤ (pos 18_000)) (pos 1_636_266_600) set (omega (arith, ints), omega (arith, ints))
    (omega (arith, ints)) (omega (arith, ints)))
    (record {
      planned = record { on = tt; at = rw is refl };
      not_after = omega (arith, ints);
      greatest = λ b _ own come. let begins = rw is at own.at in
          omega (arith, ints, floors, begins, come);
    })
    (omega (arith, ints), omega (arith, ints))
    (before_set off (pos 1_636_264_800) (neg_ℤ (pos 14_400)) (neg_ℤ (pos 18_000)) (pos 1_636_246_800) (pos 1_636_261_200) set
    (omega (arith, ints), omega (arith, ints)) (omega (arith, ints)) refl)
    (record {
      planned = record { on = tt; at = rw is refl };
      after = omega (arith, ints);
      least = λ b _ own later. let begins = rw is at own.at in
          omega (arith, ints, floors, begins, later);
    })
    (omega (arith, ints), omega (arith, ints))
    (from_set off (pos 1_636_264_800) (neg_ℤ (pos 14_400)) (neg_ℤ (pos 18_000)) (pos 1_636_250_400) (pos 1_636_268_400) set
    (omega (arith, ints), omega (arith, ints)) (omega (arith, ints)) (omega (arith, ints))
    (omega (arith, ints)) (inl (omega (arith, ints))))

pub returns : goal.returns
returns c = hour_of_one
