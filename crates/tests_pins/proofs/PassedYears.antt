-- Whole years between local date-times whose years are known.
use Rattle.tests_pins.proofs.Words.{IsEarlierInYear, IsWholeYears, Reading, arith, day_at, inl, inr, ints, pos, year_of, ℤ, ◌-ℤ◌, ◌≡◌}

-- one less than the years are apart, if the later one is earlier in its year
pub years_less : (l m : Reading) (yl ym n : ℤ) → year_of (day_at l) ≡ yl → year_of (day_at m) ≡ ym → IsEarlierInYear l m
    → IsWholeYears l m n → n ≡ yl -ℤ ym -ℤ pos 1
years_less l m yl ym n of_l of_m early h = grind (arith, ints, h.greatest (yl -ℤ ym -ℤ pos 1) (inl (rw (of_l, of_m) (omega (arith, ints)))))

-- as many as they are apart, if it is not
pub years_apart : (l m : Reading) (yl ym n : ℤ) → year_of (day_at l) ≡ yl → year_of (day_at m) ≡ ym → ¬ (IsEarlierInYear l m)
    → IsWholeYears l m n → n ≡ yl -ℤ ym
years_apart l m yl ym n of_l of_m late h = grind (arith, ints, h.greatest (yl -ℤ ym) (inr (rw (of_l, of_m) (omega (arith, ints)), late)))

-- these are the whole years
pub are_less : (l m : Reading) (yl ym n : ℤ) → year_of (day_at l) ≡ yl → year_of (day_at m) ≡ ym → IsEarlierInYear l m → n ≡ yl -ℤ ym -ℤ pos 1
    → IsWholeYears l m n
are_less l m yl ym n of_l of_m early is = record {
  passed = inl (rw (of_l, of_m) (omega (arith, ints, is)));
  greatest = λ k h. elim h [ inl less ↦ let e = rw (of_l, of_m) at less in omega (arith, ints, is, e) | inr same ↦ absurd (same.1 early) ];
}

pub are_apart : (l m : Reading) (yl ym n : ℤ) → year_of (day_at l) ≡ yl → year_of (day_at m) ≡ ym → ¬ (IsEarlierInYear l m) → n ≡ yl -ℤ ym → IsWholeYears l m n
are_apart l m yl ym n of_l of_m late is = record {
  passed = inr (rw (of_l, of_m) (omega (arith, ints, is)), late);
  greatest = λ k h. elim h [
    | inl less ↦ let e = rw (of_l, of_m) at less in omega (arith, ints, is, e)
    | inr same ↦ let e = rw (of_l, of_m) at same.0 in omega (arith, ints, is, e)
  ];
}
