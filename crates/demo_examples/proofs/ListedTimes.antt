-- The times of a day, one after another: the first that is not before a second.
use Rattle.std.proofs.Common.{◌≡◌, ◌<◌, ◌≤◌, ◌+◌, ◌⊎◌, ℕ, ℤ, length, get_or, take, sym, subst, inl, inr, arith, Option, Some, None, MatchOption, All, Contains}
use Rattle.std.proofs.{Common.{refl}, lemmas.List.{take_all, Elements.{All-more, All-weaker, All-contains, Contains-get_or}}}
use Rattle.std.specs.Prelude.{⊤}
use Rattle.zoned.{proofs.ForCallers.{date_is, month_bounds}, specs.{DateOf.{day_of_month, month_of, year_of}, DayPlans.{HasNoSecondFrom, IsFirstSecondFrom}}}
use Rattle.zoned.specs.{NaiveTime.{second_of}, Year.{is_leap}, declared.NaiveTime.{NaiveTime}}
use Rattle.demo_examples.specs.{Fires.{IsPlannedOn, RunsOn}, declared.scheduler.schedule.Schedule.{Schedule}}

pub month_day_bounds : (day : ℤ) → (1 ≤ day_of_month day) × (day_of_month day ≤ 31)
month_day_bounds day =
    let is = (date_is day).0 in let days = month_bounds (is_leap (year_of day)) (month_of day) in (omega (arith, is), omega (arith, is, days))

module _ (s : Schedule) (day : ℤ) (second : ℕ) where
  abbrev pub IsTried : Option ℕ → NaiveTime → Type 0
  IsTried first time = second ≤ second_of time → MatchOption first ⊥ (λ r. r ≤ second_of time)

  abbrev pub IsFound : Option ℕ → Type 0
  IsFound first = MatchOption first ⊤ (λ r. (second ≤ r) × ((time : NaiveTime) × Contains s.times.items time × (second_of time ≡ r)))

  -- what is found among the first n times
  abbrev pub IsFoundAmong : ℕ → Option ℕ → Type 0
  IsFoundAmong n first = IsFound first × All (IsTried first) (take n s.times.items)

  still_tried : (first result : Option ℕ) → MatchOption first ⊤ (λ a. MatchOption result ⊥ (λ r. r ≤ a)) → (time : NaiveTime) → IsTried first time
      → IsTried result time
  still_tried None result h time tried from = absurd (tried from)
  still_tried (Some a) None h time tried from = absurd h
  still_tried (Some a) (Some r) h time tried from = let less = tried from in omega (arith, h, less)

  pub more : (n : ℕ) (d : NaiveTime) (first result : Option ℕ) → n < length s.times.items → IsFoundAmong n first
      → (result ≡ first) ⊎ ((result ≡ Some (second_of (get_or s.times.items n d))) × (second ≤ second_of (get_or s.times.items n d)))
      → IsTried result (get_or s.times.items n d) → MatchOption first ⊤ (λ a. MatchOption result ⊥ (λ r. r ≤ a)) → IsFoundAmong (n + 1) result
  more n d first result place (is, tried) one this not_later =
      let weaker = All-weaker (IsTried first) (IsTried result) (still_tried first result not_later) (take n s.times.items) tried in
      let each = All-more (IsTried result) s.times.items n d place weaker this in
      let found : IsFound result = elim one [
        | inl same ↦ subst IsFound (sym same) is
        | inr (same, from) ↦ subst IsFound (sym same) (from, (get_or s.times.items n d, Contains-get_or s.times.items n d place, refl))
      ] in (found, each)

  each_time : (n : ℕ) (first : Option ℕ) → length s.times.items ≤ n → All (IsTried first) (take n s.times.items)
      → (k : ℕ) → IsPlannedOn s day k → second ≤ k → MatchOption first ⊥ (λ r. r ≤ k)
  each_time n first whole tried k planned from =
      let each = subst (All (IsTried first)) (take_all n s.times.items whole) tried in
      subst (λ (m : ℕ). second ≤ m → MatchOption first ⊥ (λ r. r ≤ m)) planned.at
      (All-contains (IsTried first) s.times.items planned.time each planned.listed) from

  pub all : (n : ℕ) (first : Option ℕ) → length s.times.items ≤ n → RunsOn s.days day → IsFoundAmong n first
      → MatchOption first (HasNoSecondFrom (IsPlannedOn s day) second) (λ r. IsFirstSecondFrom (IsPlannedOn s day) second r)
  all n None whole runs (is, tried) = λ k short planned from. each_time n None whole tried k planned from
  all n (Some r) whole runs (is, tried) = record {
    planned = record { runs = runs; time = is.1.0; listed = is.1.1; at = is.1.2 };
    not_before = is.0;
    in_day = let short = is.1.0.in_range.0 in let at = is.1.2 in omega (arith, short, at);
    least = λ k planned from. each_time n (Some r) whole tried k planned from;
  }
