-- Steps of the local clock divide time.
use Rattle.naive_plans.specs.{ClockSteps.{BeginsStep}, declared.clock_step.ClockStep.TheVariants.{Day}}
use Rattle.zoned_plans.specs.{Fires.{second_before}, Nearest.{IsLastOf, IsNextOf}, StepBounds.{AreStepBounds}}
use Rattle.zoned_plans.proofs.Words.{IsAt, IsFire, IsFirstInstantFrom, IsFirstToReach, IsInDay, IsInRange, IsLastFire, IsZonedNextFire, Law, MatchOption}
use Rattle.zoned_plans.proofs.Words.{Meaning, None, NoneFiresAfter, NoneFiresUntil, Option, Reading, Some, Zoned, arith, by_lt_z, floors, midnight, numbers}
use Rattle.zoned_plans.proofs.Words.{of_secs, pos, refl, ℤ, ◌*ℤ◌, ◌+ℤ◌, ◌-ℤ◌, ◌<ℤ◌, ◌≡◌, ◌≤ℤ◌}
use Rattle.zoned_plans.proofs.{FireTimes.{first_rises}, Words.{first_whole, one_first, to_reached}}

-- seconds of one kind: the last one up to the second t, and the next one
module _ {fire : ℤ → Type 0} {t : ℤ} where
  stays_last : {v begin end : ℤ} → IsLastOf fire t begin → IsNextOf fire t end → begin ≤ℤ v → v <ℤ end → IsLastOf fire v begin
  stays_last = grind numbers

  stays_next : {v begin end : ℤ} → IsLastOf fire t begin → IsNextOf fire t end → begin ≤ℤ v → v <ℤ end → IsNextOf fire v end
  stays_next = grind numbers

  last_once : {a c : ℤ} → IsLastOf fire t a → IsLastOf fire t c → a ≡ c
  last_once = grind numbers

  next_once : {b d : ℤ} → IsNextOf fire t b → IsNextOf fire t d → b ≡ d
  next_once = grind numbers

  next_last : {b c : ℤ} → IsNextOf fire t b → IsLastOf fire b c → c ≡ b
  next_last = grind numbers

-- steps that begin at these local times
module _ {off : ℤ → ℤ} {begins : ℤ → Type 0} {t : ℤ} where
  pub whole : {v begin end : ℤ} → AreStepBounds off begins t begin end → begin ≤ℤ v → v <ℤ end → AreStepBounds off begins v begin end
  whole h low high = record { begin_is = stays_last h.begin_is h.end_is low high; end_is = stays_next h.begin_is h.end_is low high }

  pub once : {a b c d : ℤ} → AreStepBounds off begins t a b → AreStepBounds off begins t c d → (a ≡ c) × (b ≡ d)
  once h k = (last_once h.begin_is k.begin_is, next_once h.end_is k.end_is)

  pub lengths_add : {a b c d : ℤ} → AreStepBounds off begins t a b → AreStepBounds off begins b c d → (c ≡ b) × ((b -ℤ a) +ℤ (d -ℤ c) ≡ d -ℤ a)
  lengths_add h k = let same = next_last h.end_is k.begin_is in (same, omega numbers)

-- ---- days
first_whole_second : {off : ℤ → ℤ} {l r : Reading} → IsFirstInstantFrom off l r → l.f ≡ 0 → IsFirstToReach off l.s r.s
first_whole_second h none = record {
  reached = to_reached h.shown;
  first = λ v reached. let not_before = h.first (of_secs v 0) (record { in_zone = reached.in_zone; not_before = grind numbers }) in
      grind numbers;
}

first_is_whole : {off : ℤ → ℤ} {l r : Reading} → IsFirstInstantFrom off l r → l.f ≡ 0 → r.f ≡ 0
first_is_whole h none = let same = one_first h (first_whole none (first_whole_second h none)) in grind arith

-- a day from its midnight at a to the next one at b
module _ {off : ℤ → ℤ} (day : ℤ) {a : Reading} (starts : IsFirstInstantFrom off (midnight day) a) where
  day_fires : IsFire off (BeginsStep Day) a.s
  day_fires = record {
    local = day *ℤ pos 86_400 +ℤ pos 0;
    planned = record { on = tt; at = omega (numbers, floors) };
    first = first_whole_second starts refl;
  }

  -- each beginning of a day is that of a whole day's midnight
  midnight_or_later : {v : ℤ} {b : Reading} → IsFirstInstantFrom off (midnight (day +ℤ pos 1)) b → (fire : IsFire off (BeginsStep Day) v)
      → (v <ℤ b.s → v ≤ℤ a.s) × (a.s <ℤ v → b.s ≤ℤ v)
  midnight_or_later ends fire =
      let begin = first_whole_second starts refl in let end = first_whole_second ends refl in (
        λ before. by_lt_z (midnight day).s fire.local
            (λ later. absurd (let most = first_rises (omega (numbers, floors)) end fire.first in omega numbers))
            (λ not. first_rises (omega numbers) fire.first begin),
        λ after. by_lt_z (midnight day).s fire.local
            (λ later. first_rises (omega (numbers, floors)) end fire.first)
            (λ not. absurd (let most = first_rises (omega numbers) fire.first begin in omega numbers)),
      )

pub day_is_step : (off : ℤ → ℤ) (day : ℤ) (r a b : Reading) → IsInDay off day r → IsFirstInstantFrom off (midnight day) a
    → IsFirstInstantFrom off (midnight (day +ℤ pos 1)) b → AreStepBounds off (BeginsStep Day) r.s a.s b.s
day_is_step off day r a b h starts ends =
    let start = one_first h.starts starts in let next = one_first h.ends ends in
    let low : a.s ≤ℤ r.s = grind numbers in let whole = first_is_whole ends refl in
    let high : r.s <ℤ b.s = grind (numbers, whole) in
    record {
      begin_is = record {
        fires = day_fires day starts;
        not_after = low;
        none_skipped = λ v fire come. (midnight_or_later day starts ends fire).0 (omega numbers);
      };
      end_is = record {
        fires = day_fires (day +ℤ pos 1) ends;
        after = high;
        none_skipped = λ v fire later. (midnight_or_later day starts ends fire).1 (omega numbers);
      };
    }

-- a fire at an instant of a zone with that law, and the first one from it on
module _ {O : Type 0} {m : Meaning O} (law : Law m) (plan : ℤ → Type 0) where
  pub first_now : {r : Reading} {d : Zoned O} → IsFire law.off plan r.s → r.f ≡ 0 → IsAt law (of_secs r.s 0) d → IsZonedNextFire law plan (second_before r) d
  first_now = grind numbers

  first_from : {T : Type 0} (s : ℤ) (told : T → Zoned O) (found : Option T) → (IsFire law.off plan s → ⊥)
      → MatchOption found (NoneFiresAfter law.off plan s) (λ d. IsZonedNextFire law plan s (told d))
      → MatchOption found (NoneFiresAfter law.off plan (s -ℤ pos 1)) (λ d. IsZonedNextFire law plan (s -ℤ pos 1) (told d))
  first_from s told None not h = grind numbers
  first_from s told (Some d) not h = grind numbers

  pub first_later : {T : Type 0} (r : Reading) (told : T → Zoned O) (found : Option T) → (IsFire law.off plan r.s → r.f ≡ 0 → ⊥)
      → MatchOption found (NoneFiresAfter law.off plan r.s) (λ d. IsZonedNextFire law plan r.s (told d))
      → MatchOption found (NoneFiresAfter law.off plan (second_before r)) (λ d. IsZonedNextFire law plan (second_before r) (told d))
  first_later r told found not h = grind numbers

-- an instant whose second has no fire, or has a fraction
module _ {off : ℤ → ℤ} {plan : ℤ → Type 0} {r : Reading} where
  pub none_at : IsInRange r.s → NoneFiresUntil off plan r.s → IsFire off plan r.s → r.f ≡ 0 → ⊥
  none_at = grind numbers

  pub other_at : {u : ℤ} → IsLastFire off plan r.s u → ((u ≡ r.s) × (r.f ≡ 0) → ⊥) → IsFire off plan r.s → r.f ≡ 0 → ⊥
  other_at = grind numbers
