-- The first items: the last of a list's, those of transitions whose times rise, and what holds of the first tests by places.
use Rattle.tz_info.proofs.{
  Words.{AreOrdered, AreRising, Bool, Err, Error, LeapSecond, List, Ok, Spells, Stands, Transition, [], all_below, arith, cases_lt, false, filter_first},
  Words.{get_or, index_of, inl, inr, last_else, length, linear, map, passed, pos, read, refl, suc, take, times_ordered, true, zero, ℕ, ℤ, ◌+◌, ◌-◌, ◌<ℤ◌, ◌<◌},
  Words.{◌∙◌, ◌∷◌, ◌≡◌, ◌≤ℤ◌, ◌≤◌},
}
use Rattle.tz_info.specs.Transitions.{NameTypes}

-- the last of the first i + 1 items
pub last_taken : {X Y : Type 0} (f : X → Y) (d : Y) (xs : List X) (i : ℕ) (e : X) → i < length xs → last_else d (map f (take (suc i) xs)) ≡ f (get_or xs i e)
last_taken f d [] i e h = absurd (omega arith)
last_taken f d (x ∷ xs) zero e h = refl
last_taken f d (x ∷ xs) (suc i) e h = last_taken f _ xs i e (omega arith)

-- an item of each kind, for places outside of lists
abbrev pub any : Transition
any = record { unix_leap_time = pos 0; type_index = 0 }

abbrev pub any_leap : LeapSecond
any_leap = record { unix_leap_time = pos 0; correction = pos 0 }

-- each index is one of a type
pub index_within : (n : ℕ) (ts : List Transition) (k : ℕ) → 0 < n → NameTypes n ts → k ≤ length ts → index_of ts k < n
index_within n ts k some named h = let last = last_taken (λ a. a.type_index) 0 ts (k - 1) any in grind arith

-- ---- tests by places
pub one_false : (n i : ℕ) (test : ℕ → Bool) → i < n → test i ≡ false → all_below n test ≡ false
one_false zero i _ l q = absurd (omega arith)
one_false (suc n) i test l q = grind (arith, one_false n i test)

pub one_true : (n i : ℕ) (test : ℕ → Bool) → i < n → all_below n test ≡ true → test i ≡ true
one_true n i test l q = let f = one_false n i test l in grind arith

-- ---- transitions whose times rise
-- the transitions below `low` come at or before v, those from `high` on after it
pub record Between (xs : List Transition) (v : ℤ) (low high : ℕ) : Type 0 where
  pub ordered : low ≤ high
  pub within : high ≤ length xs
  pub below : (k : ℕ) (d : Transition) → k < low → (get_or xs k d).unix_leap_time ≤ℤ v
  pub above : (k : ℕ) (d : Transition) → high ≤ k → k < length xs → v <ℤ (get_or xs k d).unix_leap_time

pub search_found : (xs : List Transition) (v : ℤ) (low high : ℕ) → high ≤ low → Between xs v low high → passed xs v ≡ take low xs
search_found xs v low high h b = grind (arith, filter_first)

-- transitions whose times rise come in order
pub in_order : (xs : List Transition) → AreRising xs → AreOrdered (map (λ (t : Transition). t.unix_leap_time) xs)
in_order xs rising = times_ordered (λ (t : Transition). t.unix_leap_time) xs any (λ i j h l. let r = rising i j any h l in omega linear)

-- the transitions up to that place are valid, so their times rise
pub record StandUntil (types : ℕ) (xs : List Transition) (n : ℕ) : Type 0 where
  pub indexes : (k : ℕ) (d : Transition) → k < n → (get_or xs k d).type_index < types
  pub rising : (i j : ℕ) (d : Transition) → i < j → j < n → (get_or xs i d).unix_leap_time <ℤ (get_or xs j d).unix_leap_time

pub stand_more : (types : ℕ) (xs : List Transition) (n : ℕ) → StandUntil types xs n → Stands types xs n → StandUntil types xs (n + 1)
stand_more types xs n s here = record {
  indexes = grind linear;
  rising = λ i j d h l. grind (linear, here.later d, s.rising i (n - 1) d);
}
