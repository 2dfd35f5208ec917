-- The first n members of a set.
use Rattle.std.proofs.{Common.{◌↔◌}, lemmas.Bool.{cases_order}}
use Rattle.naive_base.proofs.Words.{arith, by_lt_z, inl, inr, ints, pos, refl, suc, zero, ℕ, ℤ, ◌+ℤ◌, ◌+◌, ◌-ℤ◌, ◌<ℤ◌, ◌<◌, ◌≡◌, ◌≤ℤ◌, ◌≤◌, ◌⊎◌}
use Rattle.naive_rrule.specs.{RecurrenceSets.{HasBefore}, Steps.OccasionSteps.{HasNoneBetween, IsFirstBetween}}

-- fewer than n members come before it
abbrev pub IsAmong : (ℤ → Type 0) → ℕ → ℤ → Type 0
IsAmong set n l = (k : ℕ) × (k < n) × HasBefore set k l

-- the first n members are those up to a second, which is the last one of them
pub record IsCountedTo (set : ℤ → Type 0) (start : ℤ) (n : ℕ) (last : ℤ) : Type 0 where
  pub same : (l : ℤ) → set l → (l ≤ℤ last) ↔ IsAmong set n l
  pub place : (n ≡ 0) ⊎ ((m : ℕ) × (n ≡ m + 1) × HasBefore set m last)
  pub from : (start -ℤ pos 1) ≤ℤ last
  pub in_years : last <ℤ pos 253_402_300_800

count_is : (n count : ℕ) → n ≤ count → count ≤ n → n ≡ count
count_is = omega arith

-- the members of a set, counted from `start` on
module _ (set : ℤ → Type 0) where
  pub none_counted : (start s : ℤ) → ((l : ℤ) → set l → start ≤ℤ l) → s ≡ start -ℤ pos 1 → s <ℤ pos 253_402_300_800 → IsCountedTo set start 0 s
  none_counted start s low is short = record {
    same = λ l one. (λ le. absurd (let from = low l one in omega (arith, ints)), λ among. absurd (omega arith));
    place = inl refl;
    from = omega (arith, ints);
    in_years = short;
  }

  once : (n : ℕ) (a b : ℤ) → HasBefore set n a → HasBefore set n b → a ≡ b
  once zero a b h g = omega (arith, ints, h.1 b g.0, g.1 a h.0)
  once (suc n) a b h g = let same = once n h.0 g.0 h.1 g.1 in omega (arith, ints, h.4 b g.2 (omega (arith, ints)), g.4 a h.2 (omega (arith, ints)))

  -- the first n of them, up to `last`
  module _ {start : ℤ} {n : ℕ} {last : ℤ} (h : IsCountedTo set start n last) where
    next_place : {from end next : ℤ} → from ≡ last +ℤ pos 1 → IsFirstBetween set from end next → HasBefore set n next
    next_place is first = elim h.place [
      | inl none ↦ rw none (
        first.one,
        λ m one. grind (arith, ints, first.least m one, h.same m one),
      )
      | inr some ↦ let is_n : n ≡ suc some.0 = omega arith in let come = first.not_before in
          rw is_n (last, some.2, first.one, omega (arith, ints), λ m one later. first.least m one (omega (arith, ints)))
    ]

    pub one_more_counted : {from end next : ℤ} → from ≡ last +ℤ pos 1 → IsFirstBetween set from end next → end ≡ pos 253_402_300_800
        → IsCountedTo set start (n + 1) next
    one_more_counted {next = next} is first is_end =
        let place = next_place is first in let come = first.not_before in
        record {
          same = λ l one. (
            λ le. by_lt_z last l
                (λ later. let least = first.least l one (omega (arith, ints)) in let alike : next ≡ l = omega (arith, ints) in
                (n, omega arith, rw alike at place))
                (λ not. let among = (h.same l one).0 (omega (arith, ints)) in let less = among.1 in (among.0, omega arith, among.2)),
            λ among. elim (cases_order among.0 n) [
              | inl alike ↦ omega (arith, ints, once n l next (rw alike at among.2) place)
              | inr (inl less) ↦ omega (arith, ints, (h.same l one).1 (among.0, less, among.2))
              | inr (inr more) ↦ absurd (omega arith)
            ],
          );
          place = inr (n, refl, place);
          from = omega (arith, ints);
          in_years = omega (arith, ints);
        }

    pub all_counted : {from end : ℤ} (count : ℕ) → n ≤ count → from ≡ last +ℤ pos 1 → end ≡ pos 253_402_300_800
        → ((l : ℤ) → set l → l <ℤ pos 253_402_300_800) → HasNoneBetween set from end → (l : ℤ) → set l → (l ≤ℤ last) ↔ IsAmong set count l
    all_counted = grind (arith, ints)

    pub whole_count : (count : ℕ) → n ≤ count → count ≤ n → (l : ℤ) → set l → (l ≤ℤ last) ↔ IsAmong set count l
    whole_count = grind (arith, ints, count_is)
