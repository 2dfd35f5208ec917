-- Steps of the local clock in zones whose clocks are set once.
use Rattle.naive_plans.specs.{Plans.{IsLastUntil, IsNextAfter}}
use Rattle.naive_base.specs.Range.{IsInRange, IsWide}
use Rattle.offset_core.specs.Offset.{IsWithinDay}
use Rattle.zoned_time.proofs.DayStarts.{StayWithinDay}
use Rattle.zoned_plans.proofs.FireTimes.{last_fire, next_fire}
use Rattle.zoned_plans.specs.StepBounds.{AreStepBounds}
use Rattle.tests_pins.proofs.Words.{AreSetAt, IsFirstToReach, IsReachedAt, IsZoneSecond, arith, by_lt_z, ints, ℤ, ◌+ℤ◌, ◌≤ℤ◌}

pub within_day : (off : ℤ → ℤ) (at k m : ℤ) → AreSetAt off at k m → IsWithinDay k → IsWithinDay m → StayWithinDay off
within_day off at k m set before from u inside =
    by_lt_z u at (λ early. let is = set.before u early in (omega (arith, ints, is, before), omega (arith, ints, is, before)))
    (λ late. let is = set.from u late in (omega (arith, ints, is, from), omega (arith, ints, is, from)))

-- clocks that are set forward have shown no later local time than what they show
pub after_gap : (off : ℤ → ℤ) (at k m t : ℤ) → AreSetAt off at k m → IsZoneSecond t → at ≤ℤ t → k ≤ℤ m → IsReachedAt off t (t +ℤ m)
after_gap off at k m t set inside late forward = record {
  at = t;
  in_zone = inside;
  not_after = omega (arith, ints);
  shown = let is = set.from t late in omega (arith, ints, is);
  last = λ u _ until. by_lt_z u at (λ less. let is = set.before u less in omega (arith, ints, is, less, late, forward))
      (λ from. let is = set.from u from in omega (arith, ints, is, until));
}

pub bounds : (off : ℤ → ℤ) (begins : ℤ → Type 0) (t l first next u v : ℤ) → StayWithinDay off → IsInRange t → IsReachedAt off t l
    → IsLastUntil begins l first → IsWide first → IsFirstToReach off first u → IsNextAfter begins l next → IsWide next → IsFirstToReach off next v
    → AreStepBounds off begins t u v
bounds off begins t l first next u v within range reached last wide_first at_first after wide_next at_next = record {
  begin_is = last_fire within range reached last wide_first at_first;
  end_is = next_fire within range reached after wide_next at_next;
}
