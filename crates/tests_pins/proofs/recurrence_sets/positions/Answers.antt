use Rattle.std.proofs.Common.{rules}
use Rattle.naive_base.specs.{Year.{floor_div, floor_mod}, Weekday.{weekday_of}, declared.weekday.Weekday.TheVariants.{Fri, Mon, Thu, Tue, Wed}}
use Rattle.naive_rrule.specs.{RecurrenceRules.{month_number}, RecurrenceSets.{HasAfter, IsInPeriod}, declared.rule.NthWeekday.{NthWeekday}}
use Rattle.tests_pins.proofs.{Computed.{calendar}, CountedTimes.{at_most, counted}, RuleDates.{counts, dated, entry_at}}
use Rattle.tests_pins.proofs.Words.{List, arith, date_is, day_number, floors, inl, inr, ints, month_of, neg_ℤ, pos, refl, suc, year_of, zero, ℕ, ℤ, [], ◌%◌}
use Rattle.tests_pins.proofs.Words.{◌*◌, ◌*ℤ◌, ◌+ℤ◌, ◌/◌, ◌<ℤ◌, ◌<◌, ◌∷◌, ◌≡◌, ◌≤ℤ◌, ◌≤◌}
use Rattle.tests_pins.specs.Recurrences.{at_position, every, last_work_day_but_one, third_of_three}
use Rattle.tests_pins.proofs.recurrence_sets.positions.Goals as goal

-- at nine on 1997-09-02 and on the days after it
at : ℕ → ℤ
at n = pos 873_190_800 +ℤ pos (86_400 * n)

rise : (n : ℕ) → at n <ℤ at (suc n)
unfolding at
rise n = omega (arith, ints)

september : (day p : ℤ) → p ≡ pos 23_972 → month_number day ≡ p → (pos 10_105 ≤ℤ day) × (day ≤ℤ pos 10_134)
unfolding calendar
september day p is h =
    let date = date_is day in
    let year : year_of day ≡ pos 1997 = omega (arith, ints, h, date.0) in
    let month : month_of day ≡ 9 = omega (arith, ints, h, date.0) in
    let number = rw (year, month) at date.1 in
    let last = rw (year, month) at date.0 in
    (omega (arith, ints, number, last), omega (arith, ints, number, last))

at_nine_of : (n : ℤ) (entries : List NthWeekday) (start m p : ℤ) → floor_mod start 86_400 ≡ 32_400 → IsInPeriod (at_position n entries) start p m
    → m ≡ floor_div m 86_400 *ℤ pos 86_400 +ℤ pos 32_400
at_nine_of n entries start m p is h =
    let hour : floor_mod m 86_400 / 3600 ≡ 9 = grind (arith, h.occasion.hour) in
    let minute : floor_mod m 86_400 / 60 % 60 ≡ 0 = grind (arith, h.occasion.minute) in
    let second : floor_mod m 86_400 % 60 ≡ 0 = grind (arith, h.occasion.at_second) in
    omega (arith, ints, floors, hour, minute, second)

-- what the rule for Tuesdays to Thursdays has in a month, without BYSETPOS
three : ℤ → ℤ → Type 0
three p m = IsInPeriod third_of_three (pos 873_363_600) p m

from_tuesday : (m p : ℤ) → three p m → 2 ≤ weekday_of (floor_div m 86_400)
unfolding three
from_tuesday m p h = grind (arith, h.occasion.date.weekday)

all_three : (p : ℤ) → p ≡ pos 23_972 → (k : ℕ) → k ≤ 2 → three p (at k)
unfolding three at calendar
all_three p is zero h =
    let a = dated (pos 1997) 9 4 (search rules) in let b = dated (pos 1997) 9 2 (search rules) in let k = counts 1 0 (pos 23_972) in
    let w = entry_at (every Tue ∷ every Wed ∷ every Thu ∷ []) 0 (every Tue) 2 0 4 (omega arith) refl (grind arith) in
    record { occasion = grind (arith, a, b, k, w); same = omega (arith, ints, b, is) }
all_three p is (suc zero) h =
    let a = dated (pos 1997) 9 4 (search rules) in let b = dated (pos 1997) 9 3 (search rules) in let k = counts 1 0 (pos 23_972) in
    let w = entry_at (every Tue ∷ every Wed ∷ every Thu ∷ []) 1 (every Wed) 3 0 3 (omega arith) refl (grind arith) in
    record { occasion = grind (arith, a, b, k, w); same = omega (arith, ints, b, is) }
all_three p is (suc (suc zero)) h =
    let a = dated (pos 1997) 9 4 (search rules) in let k = counts 1 0 (pos 23_972) in
    let w = entry_at (every Tue ∷ every Wed ∷ every Thu ∷ []) 2 (every Thu) 4 0 3 (omega arith) refl (grind arith) in
    record { occasion = grind (arith, a, k, w); same = omega (arith, ints, a, is) }
all_three p is (suc (suc (suc k))) h = absurd (omega (arith, h))

first : (p : ℤ) → p ≡ pos 23_972 → (m : ℤ) → three p m → at 0 ≤ℤ m
unfolding three at
first p is m h =
    let from = (september (floor_div m 86_400) p is h.same).0 in let e = at_nine_of _ _ _ m p refl h in let day = from_tuesday m p h in
    omega (arith, ints, floors, from, e, day)

next : (p : ℤ) (k : ℕ) (m : ℤ) → k < 2 → three p m → at k <ℤ m → at (suc k) ≤ℤ m
unfolding three at
next p k m less h after = let e = at_nine_of _ _ _ m p refl h in omega (arith, ints, floors, e, after)

-- what the rule for work days has in a month, without BYSETPOS
work : ℤ → ℤ → Type 0
work p m = IsInPeriod last_work_day_but_one (pos 875_523_600) p m

monday : (p : ℤ) → p ≡ pos 23_972 → work p (pos 875_523_600)
unfolding work calendar
monday p is =
    let a = dated (pos 1997) 9 29 (search rules) in let k = counts 1 0 (pos 23_972) in
    let w = entry_at (every Mon ∷ every Tue ∷ every Wed ∷ every Thu ∷ every Fri ∷ []) 0 (every Mon) 1 4 0 (omega arith) refl (grind arith) in
    record { occasion = grind (arith, a, k, w); same = omega (arith, ints, a, is) }

tuesday : (p : ℤ) → p ≡ pos 23_972 → work p (pos 875_610_000)
unfolding work calendar
tuesday p is =
    let a = dated (pos 1997) 9 29 (search rules) in let b = dated (pos 1997) 9 30 (search rules) in let k = counts 1 0 (pos 23_972) in
    let w = entry_at (every Mon ∷ every Tue ∷ every Wed ∷ every Thu ∷ every Fri ∷ []) 1 (every Tue) 2 4 0 (omega arith) refl (grind arith) in
    record { occasion = grind (arith, a, b, k, w); same = omega (arith, ints, b, is) }

-- Tuesday is the last of them, and the others come no later than Monday
last_two : (p : ℤ) → p ≡ pos 23_972 → (m : ℤ) → work p m → (m ≤ℤ pos 875_610_000) × (m <ℤ pos 875_610_000 → m ≤ℤ pos 875_523_600)
unfolding work
last_two p is m h =
    let until = (september (floor_div m 86_400) p is h.same).1 in let e = at_nine_of _ _ _ m p refl h in
    (omega (arith, ints, floors, until, e), λ before. omega (arith, ints, floors, e, before))

two_left : (p : ℤ) → p ≡ pos 23_972 → HasAfter (work p) 1 (pos 875_523_600)
two_left p is = (pos 875_610_000, (tuesday p is, λ m h. (last_two p is m h).0), monday p is, omega (arith, ints), λ m h. (last_two p is m h).1)

-- the days of September 1997 are in one period
month : (d : ℕ) → 1 ≤ d → d ≤ 30 → month_number (day_number (pos 1997) 9 d) ≡ pos 23_972
unfolding calendar
month d from until = let a = dated (pos 1997) 9 d (omega arith, omega arith, from, until) in omega (arith, ints, a.year, a.month)

pub returns : goal.returns
unfolding calendar three work at
returns c = record {
  third = inr (record {
    position = pos 3;
    listed = (0, omega arith, refl);
    nth = let is = month 4 (omega arith) (omega arith) in inl (2, refl, counted (three _) at 2 (all_three _ is) rise (first _ is) (next _));
  });
  fourth = λ h. elim h [
    | inl none ↦ absurd (omega (arith, none))
    | inr listed ↦ let n : listed.position ≡ pos 3 = grind (arith, listed.listed) in elim listed.nth [
      | inl (before, e, nth) ↦
          let few : before ≤ 2 = omega (arith, ints, n, e) in let is = month 9 (omega arith) (omega arith) in
          let most = at_most (three _) at before (pos 873_795_600) (λ k less. all_three _ is k (omega (arith, few, less))) rise nth in
          omega (arith, ints, few, most)
      | inr (after, e, nth) ↦ omega (arith, ints, n, e)
    ]
  ];
  last_but_one = let is = month 29 (omega arith) (omega arith) in inr (record {
    position = neg_ℤ (pos 2);
    listed = (0, omega arith, refl);
    nth = inr (1, refl, two_left _ is);
  });
  last = λ h. elim h [
    | inl none ↦ absurd (omega (arith, none))
    | inr listed ↦ let n : listed.position ≡ neg_ℤ (pos 2) = grind (arith, listed.listed) in elim listed.nth [
      | inl (before, e, nth) ↦ omega (arith, ints, n, e)
      | inr (after, e, nth) ↦
          let one : after ≡ 1 = omega (arith, ints, n, e) in let is_last = rw one at nth in let is = month 30 (omega arith) (omega arith) in
          let until = (last_two _ is is_last.0 is_last.1.0).0 in let later = is_last.3 in omega (arith, ints, until, later)
    ]
  ];
}
