-- The walk from one date to the next.
use Rattle.naive_base.proofs.Words.{IsWideDay, arith, floor_div, floors, ints, pos, ℕ, ℤ, ◌*ℤ◌, ◌+ℤ◌, ◌<ℤ◌, ◌≡◌, ◌≤ℤ◌, floor_mod, ◌≤◌, ◌<◌, ◌-ℤ◌}
use Rattle.naive_plans.specs.DayPlans.{HasNoSecondFrom, HasNoSecondUntil, IsFirstSecondFrom, IsLastSecondUntil, IsPlannedOnItsDay, second_before}
use Rattle.naive_plans.specs.Plans.{HasNoneAfter, HasNoneUntil, IsLastUntil, IsNextAfter}

-- all that the plan has after a local second, and can be shown, comes from a second of a day on
pub record IsLeft (plan : ℤ → Type 0) (before day : ℤ) (from : ℕ) : Type 0 where
  pub in_day : from ≤ 86_400
  pub later : before <ℤ (day *ℤ pos 86_400 +ℤ pos from)
  pub left : (m : ℤ) → plan m → before <ℤ m → (day *ℤ pos 86_400 +ℤ pos from) ≤ℤ m

pub all_left : {plan : ℤ → Type 0} {day : ℤ} {from : ℕ} → from ≤ 86_400 → IsLeft plan (second_before day from) day from
all_left = omega (arith, ints)

pub at_end : {plan : ℤ → Type 0} {before day : ℤ} → IsWideDay day → (IsWideDay (day +ℤ pos 1) → ⊥) → IsLeft plan before (day +ℤ pos 1) 0
    → HasNoneAfter plan before
at_end wide out h m inside planned later = grind (arith, ints)

-- the seconds that `on` lists for each day
module _ (on : ℤ → ℕ → Type 0) where
  on_its_day : (day m : ℤ) → floor_div m 86_400 ≡ day → IsPlannedOnItsDay on m → on day (floor_mod m 86_400)
  on_its_day = grind (arith, ints)

  pub on_day : (day l : ℤ) (s : ℕ) → s < 86_400 → l ≡ day *ℤ pos 86_400 +ℤ pos s → on day s → IsPlannedOnItsDay on l
  on_day = grind (arith, ints)

  pub none_on_day : {before day : ℤ} {from : ℕ} → IsLeft (IsPlannedOnItsDay on) before day from → HasNoSecondFrom (on day) from
      → IsLeft (IsPlannedOnItsDay on) before (day +ℤ pos 1) 0
  none_on_day {day = day} h none = record {
    in_day = omega arith;
    later = omega (arith, ints, h.later, h.in_day);
    left = grind (arith, ints, floors, on_its_day);
  }

  pub least_found : {before day : ℤ} {from s : ℕ} → IsLeft (IsPlannedOnItsDay on) before day from → IsFirstSecondFrom (on day) from s
      → (m : ℤ) → IsPlannedOnItsDay on m → before <ℤ m → (day *ℤ pos 86_400 +ℤ pos s) ≤ℤ m
  least_found {day = day} h first m planned later = grind (arith, ints, on_its_day)

  pub found_on_day : {before day : ℤ} {from s : ℕ} → IsLeft (IsPlannedOnItsDay on) before day from → IsFirstSecondFrom (on day) from s
      → IsNextAfter (IsPlannedOnItsDay on) before (day *ℤ pos 86_400 +ℤ pos s)
  found_on_day = grind (arith, ints, least_found, on_day)

-- ---- and back
-- all that it has up to a local second, and can be shown, comes up to a second of a day
pub record IsLeftBefore (plan : ℤ → Type 0) (until day : ℤ) (to : ℕ) : Type 0 where
  pub in_day : to < 86_400
  pub not_later : (day *ℤ pos 86_400 +ℤ pos to) ≤ℤ until
  pub left : (m : ℤ) → plan m → m ≤ℤ until → m ≤ℤ (day *ℤ pos 86_400 +ℤ pos to)

pub all_before : {plan : ℤ → Type 0} {day : ℤ} {to : ℕ} → to < 86_400 → IsLeftBefore plan (day *ℤ pos 86_400 +ℤ pos to) day to
all_before = omega (arith, ints)

pub at_start : {plan : ℤ → Type 0} {until day : ℤ} → IsWideDay day → (IsWideDay (day -ℤ pos 1) → ⊥) → IsLeftBefore plan until (day -ℤ pos 1) 86_399
    → HasNoneUntil plan until
at_start = grind (arith, ints)

-- the seconds that `on` lists for each day
module _ (on : ℤ → ℕ → Type 0) where
  pub none_back : {until day : ℤ} {to : ℕ} → IsLeftBefore (IsPlannedOnItsDay on) until day to → HasNoSecondUntil (on day) to
      → IsLeftBefore (IsPlannedOnItsDay on) until (day -ℤ pos 1) 86_399
  none_back {day = day} h none = record {
    in_day = omega arith;
    not_later = omega (arith, ints, h.not_later);
    left = grind (arith, ints, floors, on_its_day);
  }

  pub last_on_day : {until day : ℤ} {to s : ℕ} → IsLeftBefore (IsPlannedOnItsDay on) until day to → IsLastSecondUntil (on day) to s
      → IsLastUntil (IsPlannedOnItsDay on) until (day *ℤ pos 86_400 +ℤ pos s)
  last_on_day = grind (arith, ints, on_day, on_its_day)
