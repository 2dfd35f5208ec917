use Rattle.naive_base.proofs.Words.{arith, to_z-of_z}
use Rattle.naive_rrule.proofs.occasions.Occasions.first_time.Goals as goal

pub seconds-preserved : goal.seconds-preserved
seconds-preserved c =
    let skip = simp (to_z-of_z, c.ranges.day) at c.in-Some.ensures in (
      omega arith,
      skip.in_day,
      λ k in_day on le. skip.none k in_day (simp (to_z-of_z, c.ranges.day) at on)
          ((simp (to_z-of_z, c.ranges.day) at c.seconds.invariant).2 k in_day (simp (to_z-of_z, c.ranges.day) at on) le),
    )
