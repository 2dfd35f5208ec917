-- The periods of a day that a rule by hours, minutes or seconds meets.
use Rattle.std.proofs.{Math.Nat.{add-mul-mod_self_right, div-add-mod', zero-mod}, lemmas.Nat.{mul-mod_second}}
use Rattle.naive_base.proofs.Words.{arith, floor_div, floor_mod, floors, inl, inr, ints, pos, sym, unsigned_abs, ℕ, ℤ, ◌%◌, ◌*◌, ◌*ℤ◌, ◌+ℤ◌, ◌+◌, ◌-ℤ◌, ◌/◌}
use Rattle.naive_base.proofs.Words.{◌<◌, ◌≡◌}
use Rattle.naive_rrule.specs.{RecurrenceRules.{HasSecond}, Steps.OccasionSteps.{HasPeriodOfDay, IsCounted, IsPartOfHours, IsTimeOn}}
use Rattle.naive_rrule.specs.declared.rule.RecurrenceRule.{RecurrenceRule}

times_none : (t n : ℕ) → n ≡ 0 → t * n ≡ 0
times_none t n none = rw none (omega arith)

multiple_of : (t n step : ℕ) → n % step ≡ 0 → t * n % step ≡ 0
multiple_of t n step none = rw (sym (mul-mod_second t n step)) (rw (times_none t (n % step) none) (zero-mod step))

whole_steps : (passed steps rest : ℕ) → steps + rest ≡ passed → rest ≡ 0 → steps ≡ passed
whole_steps = omega arith

same_rest : (n whole step : ℕ) → whole % step ≡ 0 → (n + whole) % step ≡ n % step
same_rest n whole step none =
    let steps = whole_steps whole (whole / step * step) (whole % step) (div-add-mod' whole step) none in
    rw steps at (add-mul-mod_self_right n (whole / step) step)

-- two numbers with the same rest
alike : (period first days passed step : ℕ) → days % step ≡ 0 → passed % step ≡ 0 → period + days ≡ first + passed → period % step ≡ first % step
alike period first days passed step whole_days whole_passed same = rw (sym (same_rest period days step whole_days)) (rw same (same_rest first passed step
    whole_passed))

-- the rule r, whose periods are parts of days, at a second of `day`
module _ (r : RecurrenceRule) (start day : ℤ) (second length : ℕ) (kind : IsPartOfHours r length) where
  -- the periods of the days from the start's on come before a period, but for its place in its day
  in_days : second < 86_400 → (counted : IsCounted r start (day *ℤ pos 86_400 +ℤ pos second))
      → second / length + unsigned_abs (day -ℤ floor_div start 86_400) * (86_400 / length)
      ≡ floor_mod start 86_400 / length + counted.times * r.interval
  in_days short counted = elim kind [
    | inl hour ↦ let is = rw hour.0 at counted.is in rw hour.1 (omega (arith, ints, floors))
    | inr (inl minute) ↦ let is = rw minute.0 at counted.is in rw minute.1 (omega (arith, ints, floors))
    | inr (inr one) ↦ let is = rw one.0 at counted.is in rw one.1 (omega (arith, ints, floors))
  ]

  has_period : IsTimeOn r start day second → HasPeriodOfDay r (floor_mod start 86_400) length (second / length * length)
  has_period on = elim kind [
    | inl hour ↦ rw hour.1 (grind arith)
    | inr (inl minute) ↦ rw minute.1 (grind arith)
    | inr (inr one) ↦ rw one.1 (grind arith)
  ]

period_under : (r : RecurrenceRule) (second length : ℕ) → IsPartOfHours r length → second < 86_400 → second / length < 86_400 / length
period_under = grind (arith, ints)

pub never_met : (r : RecurrenceRule) (start : ℤ) (length step : ℕ) → IsPartOfHours r length → 86_400 / length % step ≡ 0 → r.interval % step ≡ 0
    → ((k : ℕ) → k < 86_400 / length → k % step ≡ floor_mod start 86_400 / length % step
    → HasPeriodOfDay r (floor_mod start 86_400) length (k * length) → ⊥)
    → (day : ℤ) (second : ℕ) → second < 86_400 → IsTimeOn r start day second → ⊥
never_met r start length step kind whole_day whole_interval none day second short on = none (second / length) (period_under r second length kind short)
    (alike (second / length) (floor_mod start 86_400 / length) _ (on.counts.times * r.interval) step (multiple_of
    (unsigned_abs (day -ℤ floor_div start 86_400)) (86_400 / length) step whole_day) (multiple_of on.counts.times r.interval step whole_interval)
    (in_days r start day second length kind short on.counts))
    (has_period r start day second length kind on)

pub no_second : (r : RecurrenceRule) (start : ℕ) → ((k : ℕ) → k < 60 → HasSecond r start k → ⊥) → (second : ℕ) → HasSecond r start second → ⊥
no_second r start none second has =
    let same : second % 60 % 60 ≡ second % 60 = omega arith in none (second % 60) (omega arith) (rw same has)
