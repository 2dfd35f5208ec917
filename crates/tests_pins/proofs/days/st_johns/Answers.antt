use Rattle.tests_pins.proofs.Words.{AreEndsOfDay, AreSetAt, IsFirstInstantFrom, IsFirstToReach, arith, inl, ints, midnight, neg_ℤ, of_secs, pos, refl, ℤ, ◌+ℤ◌}
use Rattle.tests_pins.proofs.{Words.{◌<ℤ◌, ◌≡◌, ◌≤ℤ◌}, SetDays.{day_over_the_jump, last_before, length_between, not_earlier_than, set_days}}
use Rattle.tests_pins.proofs.SetFires.{before_set, from_set}
use Rattle.tests_pins.proofs.days.st_johns.Goals as goal

abbrev pub AreSet : (ℤ → ℤ) → Type 0
AreSet off = AreSetAt off (pos 1_130_639_460) (neg_ℤ (pos 9_000)) (neg_ℤ (pos 12_600))

ends : (off : ℤ → ℤ) → AreSet off → AreEndsOfDay off (pos 13_085) (pos 1_130_553_000) (pos 1_130_642_999)
ends off set =
    day_over_the_jump off (pos 1_130_639_460) (neg_ℤ (pos 9_000)) (neg_ℤ (pos 12_600)) (pos 13_085) (pos 1_130_553_000) (pos 1_130_642_999) set
    (omega (arith, ints), omega (arith, ints)) (omega (arith, ints), omega (arith, ints)) (omega (arith, ints)) (omega (arith, ints)) refl refl
    (omega (arith, ints))

starts_then : (off : ℤ → ℤ) → AreSet off → IsFirstInstantFrom off (midnight (pos 13_086)) (of_secs (pos 1_130_639_400) 0)
starts_then off set = grind (arith, set_days)

pub returns-clause-second_less : goal.returns-clause-second_less
returns-clause-second_less c off set h = let least = h.not_after (pos 1_130_642_999) (ends off set).shown_last in absurd (omega (arith, ints))

first : (off : ℤ → ℤ) (l u : ℤ) → AreSet off → (u +ℤ neg_ℤ (pos 9_000)) ≡ l → pos 0 ≤ℤ u → u <ℤ pos 1_130_639_460 → IsFirstToReach off l u
first off l u set shown low early =
    before_set off (pos 1_130_639_460) (neg_ℤ (pos 9_000)) (neg_ℤ (pos 12_600)) l u set (omega (arith, ints), omega (arith, ints)) early shown

pub returns-clause-length : goal.returns-clause-length
returns-clause-length c off set =
    length_between off (pos 13_085) (pos 1_130_553_000) (pos 1_130_639_400) (pos 86_400_000_000_000)
    (first off (pos 1_130_544_000) (pos 1_130_553_000) set refl (omega (arith, ints)) (omega (arith, ints)))
    (first off (pos 1_130_630_400) (pos 1_130_639_400) set refl (omega (arith, ints)) (omega (arith, ints))) refl

pub returns-clause-next_length : goal.returns-clause-next_length
returns-clause-next_length c off set =
    length_between off (pos 13_086) (pos 1_130_639_400) (pos 1_130_729_400) (pos 90_000_000_000_000)
    (first off (pos 1_130_630_400) (pos 1_130_639_400) set refl (omega (arith, ints)) (omega (arith, ints)))
    (from_set off (pos 1_130_639_460) (neg_ℤ (pos 9_000)) (neg_ℤ (pos 12_600)) (pos 1_130_716_800) (pos 1_130_729_400) set
    (omega (arith, ints), omega (arith, ints)) (omega (arith, ints)) (omega (arith, ints)) (omega (arith, ints)) (inl (omega (arith, ints)))) refl

pub returns-clause-end : goal.returns-clause-end
returns-clause-end c off set = record {
  in_day = record {
    start = of_secs (pos 1_130_553_000) 0;
    next = of_secs (pos 1_130_639_400) 0;
    starts = grind (arith, set_days);
    ends = starts_then off set;
    not_before = not_earlier_than (record { s = pos 1_130_639_399; f = 999_999_999 }) (of_secs (pos 1_130_553_000) 0) refl (omega (arith, ints));
    before = inl (omega (arith, ints));
  };
  no_leap = omega arith;
  last = λ q in_day less later. last_before (pos 1_130_639_400) q in_day.next less in_day.before
      (in_day.ends.first (of_secs (pos 1_130_639_400) 0) (starts_then off set).shown) later;
}

pub returns-clause-shown_again : goal.returns-clause-shown_again
returns-clause-shown_again c off set = record {
  start = of_secs (pos 1_130_639_400) 0;
  next = of_secs (pos 1_130_729_400) 0;
  starts = grind (arith, set_days);
  ends = grind (arith, set_days);
  not_before = not_earlier_than (of_secs (pos 1_130_640_060) 0) (of_secs (pos 1_130_639_400) 0) refl (omega (arith, ints));
  before = inl (omega (arith, ints));
}
