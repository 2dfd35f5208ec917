-- Places among the times of a period.
use Rattle.std.proofs.Common.{Bool, IsTrue, not, ◌↔◌}
use Rattle.std.specs.Prelude.{is_some}
use Rattle.naive_base.proofs.Words.{IsWide, MatchOption, None, Option, Some, arith, by_lt_z, inl, inr, ints, neg_ℤ, pos, refl, suc, weekday_number, zero, ℕ, ℤ}
use Rattle.naive_base.proofs.Words.{◌+ℤ◌, ◌+◌, ◌-ℤ◌, ◌-◌, ◌<ℤ◌, ◌<◌, ◌≡◌, ◌≤ℤ◌, List, [], false, get_or, length, true, ◌∷◌}
use Rattle.naive_rrule.proofs.{OccasionsBack.{after_all}, Periods.{long_before, period_rises}}
use Rattle.naive_plans.specs.Plans.{HasNoneUntil, IsLastUntil}
use Rattle.naive_rrule.specs.{RecurrenceRules.{IsOccasion}, RecurrenceSets.{HasAfter, HasBefore, IsInPeriod, IsNth}}
use Rattle.naive_rrule.specs.Steps.{PositionSteps.{HasNoneLeft, HasNoneUpTo}, OccasionSteps.{HasNoneBetween, IsFirstBetween}}
use Rattle.naive_plans.specs.Steps.Members.{IsFirstAfter, IsLastUpTo}
use Rattle.naive_rrule.specs.{Steps.RuleSteps.{own_period}, declared.rule.RecurrenceRule.{RecurrenceRule}}

-- the times of the period of one of them
abbrev pub around : RecurrenceRule → ℤ → ℤ → ℤ → Type 0
around r start time = IsInPeriod r start (own_period r time)

rises : (r : RecurrenceRule) (a b : ℤ) → a ≤ℤ b → own_period r a ≤ℤ own_period r b
rises = grind (arith, ints, period_rises)

-- ---- the time before one, and the one after it
-- the times of the rule r with that start, in the period of `time`
module _ {r : RecurrenceRule} {start time : ℤ} where
  occasion_is_wide : {l : ℤ} → neg_ℤ (pos 62_167_219_200) ≤ℤ start → time <ℤ pos 253_402_300_800 → IsOccasion r start l → l ≤ℤ (time -ℤ pos 1) → IsWide l
  occasion_is_wide low short one le = let early = after_all r start _ one in (omega (arith, ints))

  pub none_before : neg_ℤ (pos 62_167_219_200) ≤ℤ start → time <ℤ pos 253_402_300_800
      → HasNoneUntil (IsOccasion r start) (time -ℤ pos 1) → HasNoneUpTo (around r start time) (time -ℤ pos 1)
  none_before = grind (arith, ints, occasion_is_wide)

  pub before_in_period : {last : ℤ} (found : Option ℤ) → neg_ℤ (pos 62_167_219_200) ≤ℤ start → time <ℤ pos 253_402_300_800
      → IsLastUntil (IsOccasion r start) (time -ℤ pos 1) last
      → MatchOption found (own_period r last ≡ own_period r time → ⊥) (λ l. (l ≡ last) × (own_period r last ≡ own_period r time))
      → MatchOption found (HasNoneUpTo (around r start time) (time -ℤ pos 1)) (λ l. IsLastUpTo (around r start time) (time -ℤ pos 1) l)
  before_in_period {last = last} None low short own other = λ m one come.
      let most = own.greatest m (occasion_is_wide low short one.occasion come) one.occasion come in
      let early = rises r m last most in let late = rises r last time (omega (arith, ints)) in other (omega (arith, ints, one.same))
  before_in_period (Some l) low short own is = record {
    one = record { occasion = rw is.0 own.planned; same = rw is.0 is.1 };
    not_after = omega (arith, ints);
    greatest = λ m one come. omega (arith, ints, own.greatest m (occasion_is_wide low short one.occasion come) one.occasion come);
  }

  pub none_after : {from end : ℤ} → from ≡ time +ℤ pos 1 → end ≡ time +ℤ pos 31_708_800 → HasNoneBetween (IsOccasion r start) from end
      → HasNoneLeft (around r start time) time
  none_after {end = end} is_from is_end none m own later =
      by_lt_z m end (none m own.occasion (omega (arith, ints)))
      (λ not. omega (arith, ints, long_before r.frequency (weekday_number r.week_start) time m (omega (arith, ints)), own.same))

pub after_in_period : {r : RecurrenceRule} {start from end next : ℤ} (time : ℤ) (found : Option ℤ) → from ≡ time +ℤ pos 1
    → IsFirstBetween (IsOccasion r start) from end next
    → MatchOption found (own_period r next ≡ own_period r time → ⊥) (λ l. (l ≡ next) × (own_period r next ≡ own_period r time))
    → MatchOption found (HasNoneLeft (around r start time) time) (λ l. IsFirstAfter (around r start time) time l)
after_in_period {r = r} {next = next} time None is_from own other = λ m one later.
    let late = rises r next m (own.least m one.occasion (omega (arith, ints))) in let early = rises r time next (omega (arith, ints)) in
    other (omega (arith, ints, one.same))
after_in_period time (Some l) is_from own is = record {
  one = record { occasion = rw is.0 own.one; same = rw is.0 is.1 };
  after = omega (arith, ints);
  least = λ m one later. omega (arith, ints, own.least m one.occasion (omega (arith, ints)));
}

-- ---- the nth time before one, and the nth after it
-- places count from the front by the members before, and from the end by those after
pub data Side : Type 0 where
  Front : Side
  End : Side

abbrev pub Has : Side → (ℤ → Type 0) → ℕ → ℤ → Type 0
Has Front = HasBefore
Has End = HasAfter

-- k is the member next to l on that side
abbrev pub IsNext : Side → (ℤ → Type 0) → ℤ → ℤ → Type 0
IsNext Front set l = IsLastUpTo set (l -ℤ pos 1)
IsNext End set l = IsFirstAfter set l

abbrev pub HasNoNext : Side → (ℤ → Type 0) → ℤ → Type 0
HasNoNext Front set l = HasNoneUpTo set (l -ℤ pos 1)
HasNoNext End set l = HasNoneLeft set l

-- k is on that side of l, or l itself
abbrev pub IsOnSide : Side → ℤ → ℤ → Type 0
IsOnSide Front l k = k ≤ℤ l
IsOnSide End l k = l ≤ℤ k

-- the members of a set
module _ (set : ℤ → Type 0) where
  member : (side : Side) (n : ℕ) (l : ℤ) → Has side set n l → set l
  member Front zero l h = h.0
  member Front (suc n) l h = h.2
  member End zero l h = h.0
  member End (suc n) l h = h.2

  next_member : (side : Side) (n : ℕ) (l k : ℤ) → set l → IsNext side set l k → Has side set (suc n) l ↔ Has side set n k
  next_member Front n l k one last = (
    λ h. let same : h.0 ≡ k = grind (arith, ints, last.greatest h.0 (member Front n h.0 h.1), h.4 k last.one) in rw same at h.1,
    λ h. (k, h, one, omega (arith, ints), λ m own later. grind (arith, ints, last.greatest m own)),
  )
  next_member End n l k one first = (
    λ h. let same : h.0 ≡ k = grind (arith, ints, first.least h.0 (member End n h.0 h.1), h.4 k first.one) in rw same at h.1,
    λ h. (k, h, one, omega (arith, ints), λ m own less. grind (arith, ints, first.least m own)),
  )

  outermost : (side : Side) (l : ℤ) → set l → HasNoNext side set l → Has side set zero l
  outermost Front l one none = grind (arith, ints, one)
  outermost End l one none = grind (arith, ints)

  not_further : (side : Side) (n : ℕ) (l : ℤ) → HasNoNext side set l → Has side set (suc n) l → ⊥
  not_further Front n l none h = none h.0 (member Front n h.0 h.1) (omega (arith, ints))
  not_further End n l none h = none h.0 (member End n h.0 h.1) h.3

  not_outermost : (side : Side) (l k : ℤ) → IsNext side set l k → Has side set zero l → ⊥
  not_outermost Front l k last h = omega (arith, ints, h.1 k last.one)
  not_outermost End l k first h = omega (arith, ints, h.1 k first.one)

  one_of : (side : Side) (l k : ℤ) → IsNext side set l k → set k
  one_of Front l k own = own.one
  one_of End l k own = own.one

  on_side : (side : Side) (a l k : ℤ) → IsOnSide side a l → IsNext side set l k → IsOnSide side a k
  on_side Front a l k on own = omega (arith, ints)
  on_side End a l k on own = omega (arith, ints)

own_side : (side : Side) (l : ℤ) → IsOnSide side l l
own_side Front l = omega (arith, ints)
own_side End l = omega (arith, ints)

-- `count` times come on that side of `time` if and only if `left` come on that side of `last`
pub record IsAsFar (side : Side) (r : RecurrenceRule) (start time : ℤ) (count left : ℕ) (last : ℤ) : Type 0 where
  pub same : Has side (around r start time) count time ↔ Has side (around r start time) left last
  pub one : around r start time last
  pub on : IsOnSide side time last

-- the walk from `time` to that side, so far to `last`
module _ {side : Side} {r : RecurrenceRule} {start time : ℤ} {count : ℕ} where
  pub as_far : IsOccasion r start time → IsAsFar side r start time count count time
  as_far one = record { same = (λ h. h, λ h. h); one = record { occasion = one; same = refl }; on = own_side side time }

  pub one_step : {left : ℕ} {last next : ℤ} → IsAsFar side r start time count left last → 0 < left → IsNext side (around r start last) last next
      → IsAsFar side r start time count (left - 1) next
  one_step {left = left} {last = last} {next = next} h some own =
      let here : IsNext side (around r start time) last next = rw h.one.same at own in
      let is : left ≡ suc (left - 1) = omega arith in
      let step = next_member (around r start time) side (left - 1) last next h.one here in
      let same : Has side (around r start time) count time ↔ Has side (around r start time) (suc (left - 1)) last = rw is at h.same in
      record {
        same = (λ n. step.0 (same.0 n), λ n. same.1 (step.1 n));
        one = one_of (around r start time) side last next here;
        on = on_side (around r start time) side time last next h.on here;
      }

  pub none_so_far : {left : ℕ} {last : ℤ} → IsAsFar side r start time count left last → 0 < left → HasNoNext side (around r start last) last
      → Has side (around r start time) count time → ⊥
  none_so_far {left = left} {last = last} h some own has =
      let none : HasNoNext side (around r start time) last = rw h.one.same at own in
      let is : left ≡ suc (left - 1) = omega arith in
      not_further (around r start time) side (left - 1) last none (rw is at (h.same.0 has))

  pub all_passed : {left : ℕ} {last : ℤ} (found : Option ℤ) (none : Bool) → IsAsFar side r start time count left last → left ≡ 0 → is_some found ≡ not none
      → MatchOption found (HasNoNext side (around r start last) last) (λ l. IsNext side (around r start last) last l)
      → IsTrue none ↔ Has side (around r start time) count time
  all_passed {last = last} None true h zero_left is own = grind (arith, ints, outermost)
  all_passed {last = last} (Some l) false h zero_left is own = grind (arith, ints, not_outermost)
  all_passed None false h zero_left is own = grind (arith, ints)
  all_passed (Some l) true h zero_left is own = grind (arith, ints)

pub near_on : {r : RecurrenceRule} {start time : ℤ} {count left : ℕ} {last : ℤ} → IsAsFar End r start time count left last → last <ℤ (time +ℤ pos 31_708_800)
near_on {r = r} {time = time} {last = last} h = by_lt_z last (time +ℤ pos 31_708_800) (λ less. less)
    (λ not. let long = long_before r.frequency (weekday_number r.week_start) time last not in absurd (omega (arith, ints, h.one.same)))

-- ---- the nth
abbrev number : Side → ℕ → ℤ
number Front n = pos (n + 1)
number End n = neg_ℤ (pos (n + 1))

-- the places in a set
module _ {set : ℤ → Type 0} {n l : ℤ} where
  nth_is : (side : Side) (k : ℕ) → n ≡ number side k → Has side set k l ↔ IsNth set n l
  nth_is Front k is = (
    λ h. inl (k, is, h),
    λ h. elim h [ inl own ↦ let same : own.0 ≡ k = omega (arith, ints) in rw same at own.2 | inr own ↦ absurd (omega (arith, ints)) ],
  )
  nth_is End k is = (
    λ h. inr (k, is, h),
    λ h. elim h [ inl own ↦ absurd (omega (arith, ints)) | inr own ↦ let same : own.0 ≡ k = omega (arith, ints) in rw same at own.2 ],
  )

  pub not_zeroth : (pos 1 ≤ℤ n → ⊥) → (n ≤ℤ neg_ℤ (pos 1) → ⊥) → IsNth set n l → ⊥
  not_zeroth = grind (arith, ints)

  pub told_nth : (side : Side) (k : ℕ) {told : Bool} → n ≡ number side k → IsTrue told ↔ Has side set k l → IsTrue told ↔ IsNth set n l
  told_nth side k is own = let same = nth_is side k is in (λ yes. same.0 (own.0 yes), λ nth. own.1 (same.1 nth))

pub any_default : (xs : List ℤ) (i : ℕ) (d e : ℤ) → i < length xs → get_or xs i d ≡ get_or xs i e
any_default [] i d e less = grind (arith, ints)
any_default (x ∷ xs) zero d e less = refl
any_default (x ∷ xs) (suc i) d e less = any_default xs i d e (omega arith)
