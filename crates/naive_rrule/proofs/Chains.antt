-- How many times a day, an hour, a minute or a second of a rule has.
use Rattle.std.proofs.{Common.{Contains}, lemmas.Bool.{cases_order}}
use Rattle.naive_base.proofs.Words.{arith, floor_mod, floors, inl, inr, ints, refl, suc, zero, ℕ, ℤ, ◌%◌, ◌+◌, ◌/◌, ◌<ℤ◌, ◌<◌, ◌≡◌}
use Rattle.naive_rrule.specs.{RecurrenceRules.{IsAbsent, IsOccasion}, RecurrenceSets.{HasAfter, HasBefore, IsAtPosition, IsInPeriod, IsNth}}
use Rattle.naive_rrule.specs.Steps.{PositionSteps.{HasSecondAt, IsBeyond, IsChain, IsLength}, RuleSteps.{own_period}}
use Rattle.naive_rrule.specs.declared.rule.RecurrenceRule.{RecurrenceRule}

-- ---- the members before one and after it
module _ (set : ℤ → Type 0) where
  last_one : (from : ℤ) (n : ℕ) (to : ℤ) → IsChain set from n to → set to
  last_one from zero to h = h.0
  last_one from (suc n) to h = h.2

  one_more : (from k : ℤ) (n : ℕ) (to : ℤ) → set from → from <ℤ k → IsChain set k n to → IsChain set from (suc n) to
  one_more from k zero to one less h = grind (arith, ints, floors)
  one_more from k (suc n) to one less h = (h.0, one_more from k n h.0 one less h.1, h.2, h.3)

  chain_before : (n : ℕ) (l : ℤ) → HasBefore set n l → (from : ℤ) × IsChain set from n l
  chain_before zero l h = (l, (h.0, refl))
  chain_before (suc n) l h = let own = chain_before n h.0 h.1 in (own.0, (h.0, own.1, h.2, h.3))

  chain_after : (n : ℕ) (l : ℤ) → HasAfter set n l → (to : ℤ) × IsChain set l n to
  chain_after zero l h = (l, (h.0, refl))
  chain_after (suc n) l h = let own = chain_after n h.0 h.1 in (own.0, one_more l h.0 n own.0 h.2 h.3 own.1)

-- ---- counted
-- at most `counted` times of a period come before one of its seconds
abbrev pub AreFew : RecurrenceRule → ℤ → ℕ → ℕ → ℕ → Type 0
AreFew r start length second counted = (p from to : ℤ) (n : ℕ) → IsChain (IsInPeriod r start p) from n to → floor_mod to length < second → n < counted

-- the rule r, whose periods have `length` seconds
module _ (r : RecurrenceRule) (start : ℤ) (length : ℕ) (kind : IsLength r length) where
  falls : (a b p : ℤ) → own_period r a ≡ p → own_period r b ≡ p → a <ℤ b → floor_mod a length < floor_mod b length
  falls = grind (arith, ints)

  has_its_second : (l : ℤ) → IsOccasion r start l → HasSecondAt r (floor_mod start 86_400) length (floor_mod l length)
  has_its_second l one = elim kind [
    | inl day ↦ rw day.1 (grind arith)
    | inr (inl hour) ↦
        let minutes : floor_mod l 3600 / 60 % 60 ≡ floor_mod l 86_400 / 60 % 60 = omega (arith, ints, floors) in
        let seconds : floor_mod l 3600 % 60 ≡ floor_mod l 86_400 % 60 = omega (arith, ints, floors) in
        rw hour.1 (record { hour = λ more. absurd (omega arith); minute = λ _. rw minutes one.minute; at_second = λ _. rw seconds one.at_second })
    | inr (inr (inl minute)) ↦ rw minute.1 (grind (arith, ints, floors))
    | inr (inr (inr second)) ↦ rw second.1 (grind arith)
  ]

  pub one_counted : (second counted : ℕ) → AreFew r start length second counted → AreFew r start length (second + 1) (counted + 1)
  one_counted second counted few p from to zero h less = omega arith
  one_counted second counted few p from to (suc n) h less = search (arith, ints, floors, falls, last_one)

  pub none_counted : (second counted : ℕ) → (HasSecondAt r (floor_mod start 86_400) length second → ⊥) → AreFew r start length second counted
      → AreFew r start length (second + 1) counted
  none_counted second counted not few p from to n h less = elim (cases_order (floor_mod to length) second) [
    | inl same ↦ absurd (not (rw same at (has_its_second to (last_one (IsInPeriod r start p) from n to h).occasion)))
    | inr (inl before) ↦ few p from to n h before
    | inr (inr after) ↦ absurd (omega arith)
  ]

-- ---- positions
-- the rule r with that start
module _ (r : RecurrenceRule) (start : ℤ) where
  pub never_nth : (count : ℕ) → ((p from to : ℤ) (n : ℕ) → IsChain (IsInPeriod r start p) from n to → n < count) → (p l n : ℤ) → IsBeyond count n
      → IsNth (IsInPeriod r start p) n l → ⊥
  never_nth = grind (arith, ints, chain_after, chain_before)

  pub never_placed : (IsAbsent r.by_set_position.now → ⊥) → ((p l n : ℤ) → Contains r.by_set_position.now n → IsNth (IsInPeriod r start p) n l → ⊥) → (l : ℤ)
      → IsAtPosition r start l → ⊥
  never_placed some never l own = elim own [
    | inl absent ↦ some absent
    | inr listed ↦ never (own_period r l) l listed.position listed.listed listed.nth
  ]
