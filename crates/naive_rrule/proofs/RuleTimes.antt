-- The times of a rule, and those after a second.
use Rattle.std.proofs.Common.{◌↔◌}
use Rattle.naive_base.proofs.Words.{IsWide, MatchOption, None, Option, Some, arith, ints, pos, ℤ, ◌+ℤ◌, ◌-ℤ◌, ◌<ℤ◌, ◌≡◌, ◌≤ℤ◌, floors, neg_ℤ, ℕ, ◌<◌, reading}
use Rattle.naive_base.specs.declared.datetime.NaiveDateTime.{NaiveDateTime}
use Rattle.naive_rrule.proofs.OccasionWalk.{time_of}
use Rattle.naive_plans.specs.Plans.{HasNoneUntil, IsLastUntil, IsNextAfter}
use Rattle.naive_rrule.specs.{RecurrenceRules.{IsOccasion}, RecurrenceSets.{IsAtPosition, IsRecurrenceTime}}
use Rattle.naive_rrule.specs.{RecurrenceSets.{IsRuleTime, IsWithinCount, IsPlannedUpTo, IsWithinEnd}, Steps.OccasionSteps.{HasNoneBetween, IsFirstBetween}}
use Rattle.naive_rrule.specs.Steps.{OccasionSteps.{IsTimeOn}, RecurrenceSteps.{HasNoneLater, IsFirstLater, IsLastSecond}, RuleSteps.{IsBounded}}
use Rattle.naive_rrule.specs.declared.{recurrence.RecurrenceEnd.{RecurrenceEnd, TheVariants.{Count, Never, Until}}, rule.RecurrenceRule.{RecurrenceRule}}

strictly : (a b : ℤ) → a ≤ℤ b → (a ≡ b → ⊥) → a <ℤ b
strictly = grind (arith, ints)

-- the rule's times from a second on come from another one on
abbrev pub AreFrom : RecurrenceRule → ℤ → ℤ → ℤ → Type 0
AreFrom r start from left = (from ≤ℤ left) × ((m : ℤ) → IsRuleTime r start m → from ≤ℤ m → left ≤ℤ m)

-- the times of the rule r with that start
module _ {r : RecurrenceRule} {start : ℤ} where
  pub none_from : {from left end : ℤ} → AreFrom r start from left → HasNoneBetween (IsOccasion r start) left end → HasNoneBetween (IsRuleTime r start) from end
  none_from h none m time come = search (arith, ints, floors)

  pub first_from : {from left end l : ℤ} → start ≤ℤ from → end ≤ℤ pos 253_402_300_800 → AreFrom r start from left
      → IsFirstBetween (IsOccasion r start) left end l → IsAtPosition r start l → IsFirstBetween (IsRuleTime r start) from end l
  first_from le last h first own = let come = first.not_before in record {
    one = record { occasion = first.one; position = own; from_start = omega (arith, ints); in_years = omega (arith, ints) };
    not_before = omega (arith, ints);
    before_end = first.before_end;
    least = λ m time come. first.least m time.occasion (h.1 m time come);
  }

  pub more_from : {from left end l next : ℤ} → AreFrom r start from left → IsFirstBetween (IsOccasion r start) left end l
      → (IsAtPosition r start l → ⊥) → next ≡ l +ℤ pos 1 → AreFrom r start from next
  more_from {l = l} h first not is = (
    let come = first.not_before in omega (arith, ints),
    λ m time come. omega (arith, ints, strictly l m (first.least m time.occasion (h.1 m time come)) (λ same. not (rw same time.position))),
  )

  pub none_left : {after last from : ℤ} → ((m : ℤ) → after <ℤ m → start ≤ℤ m → from ≤ℤ m) → last <ℤ from → HasNoneLater (IsRuleTime r start) after last
  none_left = grind (arith, ints)

  pub next_later : {last local l : ℤ} → IsFirstLater (IsRuleTime r start) local last l → IsNextAfter (IsPlannedUpTo r start last) local l
  next_later first = record { planned = (first.one, first.not_after); after = first.later; least = λ m wide own come. first.least m own.0 come }

  -- ---- ends
  pub none_up : {last s : ℤ} → ((l : ℤ) → IsRuleTime r start l → l ≤ℤ last → ⊥) → s ≡ start -ℤ pos 1
      → (l : ℤ) → IsRuleTime r start l → (l ≤ℤ s) ↔ (l ≤ℤ last)
  none_up = grind (arith, ints)

pub from_later : (r : RecurrenceRule) (start after last from end : ℤ) (found : Option ℤ) → after <ℤ from → ((m : ℤ) → after <ℤ m → start ≤ℤ m → from ≤ℤ m)
    → end ≡ last +ℤ pos 1
    → MatchOption found (HasNoneBetween (IsRuleTime r start) from end) (λ l. IsFirstBetween (IsRuleTime r start) from end l)
    → MatchOption found (HasNoneLater (IsRuleTime r start) after last) (λ l. IsFirstLater (IsRuleTime r start) after last l)
from_later r start after last from end None later least is none = search (arith, ints, floors)
from_later r start after last from end (Some l) later least is first = record {
  one = first.one;
  later = let come = first.not_before in omega (arith, ints);
  not_after = omega (arith, ints);
  least = λ m time come. first.least m time (least m come time.from_start);
}

-- ---- and back
-- the rule's times up to a second come up to another one
abbrev pub AreTo : RecurrenceRule → ℤ → ℤ → ℤ → Type 0
AreTo r start until to = (to ≤ℤ until) × ((m : ℤ) → IsRuleTime r start m → m ≤ℤ until → m ≤ℤ to)

-- the times of the rule r, with a start from the year 0 on
module _ {r : RecurrenceRule} {start : ℤ} (low : neg_ℤ (pos 62_167_219_200) ≤ℤ start) where
  time_is_wide : {l : ℤ} → IsRuleTime r start l → IsWide l
  time_is_wide = omega (arith, ints)

  pub none_to : {last : ℤ} → HasNoneUntil (IsRuleTime r start) last → (l : ℤ) → IsRuleTime r start l → l ≤ℤ last → ⊥
  none_to none l time = none l (time_is_wide time) time

  pub same_to : {last s : ℤ} → IsLastUntil (IsRuleTime r start) last s → (l : ℤ) → IsRuleTime r start l → (l ≤ℤ s) ↔ (l ≤ℤ last)
  same_to own l time = (λ le. omega (arith, ints), own.greatest l (time_is_wide time) time)

  pub bounded_to : {last s : ℤ} → IsLastUntil (IsRuleTime r start) last s → IsBounded s
  bounded_to = omega (arith, ints)

  pub more_to : {until to last next : ℤ} → AreTo r start until to → IsLastUntil (IsOccasion r start) to last → (IsAtPosition r start last → ⊥)
      → next ≡ last -ℤ pos 1 → AreTo r start until next
  more_to {last = last} h own not is_next = (
    omega (arith, ints),
    λ m time come.
        let less = strictly m last (own.greatest m (time_is_wide time) time.occasion (h.1 m time come)) (λ same. not (rw same at time.position)) in
        omega (arith, ints),
  )

-- the times of the rule r with that start
module _ {r : RecurrenceRule} {start : ℤ} where
  pub none_to_start : {until to : ℤ} → AreTo r start until to → (start ≤ℤ to → ⊥) → HasNoneUntil (IsRuleTime r start) until
  none_to_start = grind (arith, ints)

  pub none_of_them : {until to : ℤ} → AreTo r start until to → HasNoneUntil (IsOccasion r start) to → HasNoneUntil (IsRuleTime r start) until
  none_of_them h none m wide time come = none m wide time.occasion (h.1 m time come)

  pub all_early : {until to last : ℤ} → AreTo r start until to → IsLastUntil (IsOccasion r start) to last → (start ≤ℤ last → ⊥)
      → HasNoneUntil (IsRuleTime r start) until
  all_early h own early m wide time come = let most = own.greatest m wide time.occasion (h.1 m time come) in early (omega (arith, ints))

  pub last_found : {until to last : ℤ} → until <ℤ pos 253_402_300_800 → AreTo r start until to → IsLastUntil (IsOccasion r start) to last
      → start ≤ℤ last → IsAtPosition r start last → IsLastUntil (IsRuleTime r start) until last
  last_found short h own from at_position = record {
    planned = record { occasion = own.planned; position = at_position; from_start = from; in_years = omega (arith, ints) };
    not_after = omega (arith, ints);
    greatest = λ m wide time come. own.greatest m wide time.occasion (h.1 m time come);
  }

  pub last_planned : {local last until l : ℤ} → (until ≤ℤ local) × (until ≤ℤ last) → ((m : ℤ) → m ≤ℤ local → m ≤ℤ last → m ≤ℤ until)
      → IsLastUntil (IsRuleTime r start) until l → IsLastUntil (IsPlannedUpTo r start last) local l
  last_planned both most own = record {
    planned = (own.planned, omega (arith, ints));
    not_after = omega (arith, ints);
    greatest = λ m wide time come. own.greatest m wide time.0 (most m come time.1);
  }

  pub none_planned : {local last until : ℤ} → ((m : ℤ) → m ≤ℤ local → m ≤ℤ last → m ≤ℤ until)
      → HasNoneUntil (IsRuleTime r start) until → HasNoneUntil (IsPlannedUpTo r start last) local
  none_planned most none m wide time come = grind (arith, ints)

  pub no_rule_time : ((day : ℤ) (second : ℕ) → second < 86_400 → IsTimeOn r start day second → ⊥) → (l : ℤ) → IsRuleTime r start l → ⊥
  no_rule_time = grind (arith, ints, floors, time_of)

  pub never_last : IsLastSecond r start Never (pos 253_402_300_799)
  never_last = omega (arith, ints)

  pub until_last : {last : ℤ} {until : NaiveDateTime} → ((l : ℤ) → l <ℤ pos 253_402_300_800 → (l ≤ℤ last) ↔ (l ≤ℤ (reading until).s))
      → (neg_ℤ (pos 10_000_000_000_000) ≤ℤ last) × (last <ℤ pos 253_402_300_800) → IsLastSecond r start (Until until) last
  until_last = grind (arith, ints, floors)

  pub count_last : {last : ℤ} {count : ℕ} → ((l : ℤ) → IsRuleTime r start l → (l ≤ℤ last) ↔ IsWithinCount r start count l)
      → (neg_ℤ (pos 10_000_000_000_000) ≤ℤ last) × (last <ℤ pos 253_402_300_800) → IsLastSecond r start (Count count) last
  count_last = grind (arith, ints)

-- the rule's times up to `last` are those within the recurrence's end
module _ (r : RecurrenceRule) (start : ℤ) (end : RecurrenceEnd) {last : ℤ}
    (own : (l : ℤ) → IsRuleTime r start l → (l ≤ℤ last) ↔ IsWithinEnd r start end l) where
  pub end_shortened : {short : ℤ} → ((l : ℤ) → IsRuleTime r start l → (l ≤ℤ short) ↔ (l ≤ℤ last)) → (l : ℤ) → IsRuleTime r start l
      → (l ≤ℤ short) ↔ IsWithinEnd r start end l
  end_shortened same l time = (λ le. (own l time).0 ((same l time).0 le), λ within. (same l time).1 ((own l time).1 within))

  pub has_times : (l : ℤ) → (IsRuleTime r start l × (l ≤ℤ last)) ↔ IsRecurrenceTime r start end l
  has_times l = (λ time. record { time = time.0; within = (own l time.0).0 time.1 }, λ time. (time.time, (own l time.time).1 time.within))
