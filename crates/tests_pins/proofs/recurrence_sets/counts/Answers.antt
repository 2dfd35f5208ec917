use Rattle.naive_base.specs.Year.{floor_div, floor_mod}
use Rattle.naive_rrule.specs.{RecurrenceRules.{Counts}, RecurrenceSets.{HasBefore, IsRuleTime}}
use Rattle.tests_pins.proofs.Computed.{calendar}
use Rattle.tests_pins.proofs.Words.{arith, floors, inl, ints, pos, refl, suc, ℕ, ℤ, ◌%◌, ◌*◌, ◌*ℤ◌, ◌+ℤ◌, ◌+◌, ◌/◌, ◌<ℤ◌, ◌<◌, ◌≡◌, ◌≤ℤ◌, ◌≤◌}
use Rattle.tests_pins.{proofs.CountedTimes.{at_most, counted}, specs.Recurrences.{every_tenth_day}}
use Rattle.tests_pins.proofs.recurrence_sets.counts.Goals as goal

-- at nine on 1997-09-02, and on each tenth day after it
at : ℕ → ℤ
at n = pos 873_190_800 +ℤ pos (864_000 * n)

Has : ℤ → Type 0
Has = IsRuleTime every_tenth_day (pos 873_190_800)

has : (n : ℕ) → n ≤ 5 → Has (at n)
unfolding at Has
has n h =
    let day : floor_div (at n) 86_400 ≡ pos (10_106 + 10 * n) = omega (arith, ints, floors) in
    let second : floor_mod (at n) 86_400 ≡ 32_400 = omega (arith, ints, floors) in
    let k : Counts 10 (pos 10_106) (floor_div (floor_div (at n) 86_400 *ℤ pos 86_400 +ℤ pos (floor_mod (at n) 86_400)) 86_400) =
    record { times = n; is = omega (arith, ints, floors) } in
    record { occasion = grind (arith, k, day, second); position = inl refl; from_start = omega (arith, ints); in_years = omega (arith, ints) }

only : (m : ℤ) → Has m → (n : ℕ) × (m ≡ at n)
unfolding at Has
only m h =
    let k = h.occasion.counts.is in
    let hour : floor_mod m 86_400 / 3600 ≡ 9 = grind (arith, h.occasion.hour) in
    let minute : floor_mod m 86_400 / 60 % 60 ≡ 0 = grind (arith, h.occasion.minute) in
    let second : floor_mod m 86_400 % 60 ≡ 0 = grind (arith, h.occasion.at_second) in
    (h.occasion.counts.times, omega (arith, ints, floors, k, hour, minute, second))

rise : (n : ℕ) → at n <ℤ at (suc n)
unfolding at
rise n = omega (arith, ints)

before : (l : ℤ) (n : ℕ) → n ≤ 5 → l ≡ at n → HasBefore Has n l
unfolding at
before l n h e = rw e (counted Has at n (λ k less. has k (omega arith)) rise (λ m is. let e = (only m is).1 in omega (arith, ints, e))
    (λ k m less is after. let e = (only m is).1 in omega (arith, ints, e, after)))

within : (n : ℕ) (l : ℤ) → n < 5 → HasBefore Has n l → l ≤ℤ at 4
unfolding at
within n l h is = let most = at_most Has at n l (λ k less. has k (omega arith)) rise is in omega (arith, ints, most)

pub returns : goal.returns
unfolding calendar at Has
returns c = record {
  fifth = record { time = has 4 (omega arith); within = (4, omega arith, before (at 4) 4 (omega arith) refl) };
  sixth = λ h. let most = within h.within.0 (at 5) h.within.1 h.within.2 in omega (arith, ints, most);
  up_to_fifth = λ l. (
    λ h.
        let (n, e) = only l h.0 in let few : n ≤ 4 = omega (arith, ints, e, h.1) in
        record { time = h.0; within = (n, omega arith, before l n (omega arith) e) },
    λ h. (h.time, within h.within.0 l h.within.1 h.within.2),
  );
  not_up_to_sixth = λ h.
      let is = (h (at 5)).0 (has 5 (omega arith), omega (arith, ints)) in
      let most = within is.within.0 (at 5) is.within.1 is.within.2 in omega (arith, ints, most);
}
