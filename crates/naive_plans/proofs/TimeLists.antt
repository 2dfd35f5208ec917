-- Lists of local times, and plans without some.
use Rattle.std.proofs.Common.{Contains}
use Rattle.naive_base.proofs.Words.{List, MatchOption, None, Option, Some, arith, get_or, length, refl, ℕ, ℤ, ◌<◌, ◌≤◌, ◌<ℤ◌, ◌≡◌, ◌≤ℤ◌, reading}
use Rattle.naive_base.specs.declared.datetime.NaiveDateTime.{NaiveDateTime}
use Rattle.naive_plans.specs.{PlanSets.{HasLocalTime}, Plans.{HasNoneAfter, HasNoneUntil, IsLastUntil, IsNextAfter}}

-- of the first n local times of a list, the earliest one after a second
abbrev pub IsFirstAmong : List NaiveDateTime → ℤ → ℕ → Option NaiveDateTime → Type 0
IsFirstAmong xs after n None = (k : ℕ) (e : NaiveDateTime) → k < n → after <ℤ (reading (get_or xs k e)).s → ⊥
IsFirstAmong xs after n (Some d) = Contains xs d × (after <ℤ (reading d).s)
    × ((k : ℕ) (e : NaiveDateTime) → k < n → after <ℤ (reading (get_or xs k e)).s → (reading d).s ≤ℤ (reading (get_or xs k e)).s)

-- the latest one up to a second
abbrev pub IsLastAmong : List NaiveDateTime → ℤ → ℕ → Option NaiveDateTime → Type 0
IsLastAmong xs until n None = (k : ℕ) (e : NaiveDateTime) → k < n → (reading (get_or xs k e)).s ≤ℤ until → ⊥
IsLastAmong xs until n (Some d) = Contains xs d × ((reading d).s ≤ℤ until)
    × ((k : ℕ) (e : NaiveDateTime) → k < n → (reading (get_or xs k e)).s ≤ℤ until → (reading (get_or xs k e)).s ≤ℤ (reading d).s)

-- the list, of which the first n local times are all
module _ (xs : List NaiveDateTime) (n : ℕ) (all : length xs ≤ n) where
  place : {m : ℤ} (has : HasLocalTime xs m) → (has.listed.0 < n) × ((reading (get_or xs has.listed.0 has.local)).s ≡ m)
  place = grind arith

  pub first_done : (after : ℤ) (found : Option NaiveDateTime) → IsFirstAmong xs after n found
      → MatchOption found (HasNoneAfter (HasLocalTime xs) after) (λ l. IsNextAfter (HasLocalTime xs) after (reading l).s)
  first_done after None h = grind (arith, place)
  first_done after (Some d) h = record {
    planned = record { local = d; listed = h.0; at = refl };
    after = h.1;
    least = λ m wide has later. rw (place has).1 at (h.2 has.listed.0 has.local (place has).0 (rw (place has).1 later));
  }

  pub last_done : (until : ℤ) (found : Option NaiveDateTime) → IsLastAmong xs until n found
      → MatchOption found (HasNoneUntil (HasLocalTime xs) until) (λ l. IsLastUntil (HasLocalTime xs) until (reading l).s)
  last_done until None h = grind (arith, place)
  last_done until (Some d) h = record {
    planned = record { local = d; listed = h.0; at = refl };
    not_after = h.1;
    greatest = λ m wide has come. rw (place has).1 at (h.2 has.listed.0 has.local (place has).0 (rw (place has).1 come));
  }
