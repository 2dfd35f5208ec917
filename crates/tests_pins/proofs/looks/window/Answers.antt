use Rattle.std.specs.Prelude.{slice_index_or}
use Rattle.tz_info.proofs.WallLaws.{window_count_once}
use Rattle.tz_info.specs.Windows.{IsWindowCount, offsets}
use Rattle.tests_pins.proofs.Words.{List, arith, honolulu, hst10, ints, neg_ℤ, pos, refl, suc, zero, ℕ, ℤ, ◌<◌, ◌≤ℤ◌}
use Rattle.tests_pins.proofs.looks.window.Goals as goal

abbrev all : List ℤ
all = offsets (honolulu hst10).types (honolulu hst10).rule

between : (k : ℕ) (d : ℤ) → k < 7 → (neg_ℤ (pos 37_886) ≤ℤ slice_index_or all k d) × (slice_index_or all k d ≤ℤ neg_ℤ (pos 34_200))
between zero d h = grind (arith, ints)
between (suc zero) d h = grind (arith, ints)
between (suc (suc zero)) d h = grind (arith, ints)
between (suc (suc (suc zero))) d h = grind (arith, ints)
between (suc (suc (suc (suc zero)))) d h = grind (arith, ints)
between (suc (suc (suc (suc (suc zero))))) d h = grind (arith, ints)
between (suc (suc (suc (suc (suc (suc zero)))))) d h = grind (arith, ints)
between (suc (suc (suc (suc (suc (suc (suc k))))))) d h = absurd (omega (arith, h))

one : IsWindowCount (honolulu hst10) (neg_ℤ (pos 712_188_000)) 1
one = record {
  low = neg_ℤ (pos 712_153_800);
  high = neg_ℤ (pos 712_150_114);
  window = record {
    greatest = neg_ℤ (pos 34_200);
    least = neg_ℤ (pos 37_886);
    is_greatest = record { among = (2, omega arith, refl); most = λ k d h. (between k d h).1 };
    is_least = record { among = (0, omega arith, refl); fewest = λ k d h. (between k d h).0 };
    is_low = record { sum = refl; fits = λ k h. absurd (omega (arith, h)) };
    is_high = record { sum = refl; fits = λ k h. absurd (omega (arith, h)) };
  };
  count = refl;
}

pub returns : goal.returns
returns c = record {
  one = one;
  none = λ w. let same = window_count_once _ _ _ _ w one in absurd (omega (arith, same));
  all = λ w. let same = window_count_once _ _ _ _ w one in absurd (omega (arith, same));
}
