use Rattle.naive_base.specs.NaiveDate.{day_of}
use Rattle.naive_plans.specs.{ClockSteps.{BeginsStep}, declared.clock_step.ClockStep.TheVariants.{Day}}
use Rattle.zoned_ffi.{proofs.Words.{Fits64, ap, arith, ints, rules, subst, to_z-of_z, ◌∙◌}, specs.WholeSeconds.{IsNoDayAt}}
use Rattle.zoned_ref.specs.TimeZoneRef.{off_of}
use Rattle.zoned_plans.specs.StepBounds.{AreStepBounds, IsStepOutOfRange}
use Rattle.zoned_ffi.proofs.days.WrittenDay.at.Goals as goal

pub returns-in_default : goal.returns-in_default
returns-in_default c = grind (arith, IsNoDayAt.wide)

pub returns-in_default-from_timestamp_secs : goal.returns-in_default-from_timestamp_secs
returns-in_default-from_timestamp_secs c = grind (arith, to_z-of_z, IsNoDayAt.out_of_range)

pub returns-in_default-step_at : goal.returns-in_default-step_at
returns-in_default-step_at c =
    let instant = c.ranges.instant in
    let narrow = c.in-Some.narrow in let offsets = c.in-Some.ensures.offsets in
    let stamp = simp to_z-of_z at c.in-Some-from_timestamp_secs.ensures in
    IsNoDayAt.end_out_of_range (off_of narrow) offsets
    (subst (λ r. IsStepOutOfRange (off_of narrow) (BeginsStep Day) r.s) (ap (λ d. d.utc) stamp.1) c.in_default-step_at.ensures)

pub returns : goal.returns
returns c =
    let instant = c.ranges.instant in
    let date : Fits64 c.secs_since_epoch.result = search rules in
    let begin : Fits64 c.timestamp.result = search rules in let end : Fits64 c.timestamp-2.result = search rules in
    let narrow = c.in-Some.narrow in let offsets = c.in-Some.ensures.offsets in
    let stamp = simp to_z-of_z at c.in-Some-from_timestamp_secs.ensures in let utc = ap (λ d. d.utc) stamp.1 in
    let midnight = c.secs_since_epoch.ensures ∙ ap (λ r. r.s) c.and_time-midnight.ensures.value in
    let begin_is = c.timestamp.ensures in let end_is = c.timestamp-2.ensures in
    let day = c.in-Some-step_at.day in let bounds = c.in-Some-step_at.ensures.bounds in
    simp to_z-of_z (record {
      off = off_of narrow;
      offsets = offsets;
      day = day_of c.date_of.result;
      in_day = rw utc at c.date_of.ensures;
      date = grind (arith, ints);
      bounds = subst (λ t. AreStepBounds (off_of narrow) (BeginsStep Day) t c.timestamp.result c.timestamp-2.result) (ap (λ r. r.s) utc)
          (rw (begin_is, end_is) bounds);
      begin_in_range = rw begin_is day.begin.in_range;
      end_in_range = rw end_is day.end.in_range;
    })
