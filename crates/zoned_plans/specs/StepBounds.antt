-- Where steps of the local clock begin and end in a zone. A step begins at the first second at which clocks show one of the local
-- times at which steps begin, or a later one (`IsFire`).
use Rattle.std.specs.Prelude.{◌⊎◌, ℤ}
use Rattle.naive_base.specs.Stamp.{of_secs}
use Rattle.zoned_time.specs.{Zone.{Meaning, Law}, Zoned.{Zoned, IsAt}}
use Rattle.zoned_plans.specs.Fires.{IsLastFire, IsNextFire, NoneFiresAfter, NoneFiresUntil}

-- the second t lies in the step that begins at the second `begin`, and the next one begins at `end`
pub record AreStepBounds (off : ℤ → ℤ) (begins : ℤ → Type 0) (t begin end : ℤ) : Type 0 where
  pub begin_is : IsLastFire off begins t begin
  pub end_is : IsNextFire off begins t end

-- the begin and the end of the step, as instants of the zone, of whole seconds
pub record AreInstantsOfStep {O : Type 0} {m : Meaning O} (law : Law m) (begins : ℤ → Type 0) (t : ℤ) (d e : Zoned O) : Type 0 where
  pub bounds : AreStepBounds law.off begins t d.utc.s e.utc.s
  pub at_begin : IsAt law (of_secs d.utc.s 0) d
  pub at_end : IsAt law (of_secs e.utc.s 0) e

-- no step begins in range at or before the second t, or none after it
abbrev pub IsStepOutOfRange : (ℤ → ℤ) → (ℤ → Type 0) → ℤ → Type 0
IsStepOutOfRange off begins t = NoneFiresUntil off begins t ⊎ NoneFiresAfter off begins t
