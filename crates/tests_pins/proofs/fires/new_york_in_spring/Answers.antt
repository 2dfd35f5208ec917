use Rattle.tests_pins.proofs.Words.{AreFires, IsFire, IsNextFire, arith, by_lt_z, inl, inr, ints, neg_ℤ, pos, refl, twice_daily, ℤ, [], ◌<ℤ◌, ◌∷◌, ◌≤ℤ◌}
use Rattle.tests_pins.proofs.SetFires.{AreThree, InSpring, fires_in_spring, from_set, one_list}
use Rattle.tests_pins.proofs.fires.new_york_in_spring.Goals as goal

first : (off : ℤ → ℤ) → InSpring off → IsFire off (twice_daily 8_100 9_900) (pos 1_615_705_200)
first off set = record {
  local = pos 1_615_688_100;
  planned = inl refl;
  first = from_set off (pos 1_615_705_200) (neg_ℤ (pos 18_000)) (neg_ℤ (pos 14_400)) (pos 1_615_688_100) (pos 1_615_705_200) set
      (omega (arith, ints), omega (arith, ints)) (omega (arith, ints)) (omega (arith, ints)) (omega (arith, ints)) (inr refl);
}

second : (off : ℤ → ℤ) → InSpring off → IsFire off (twice_daily 8_100 9_900) (pos 1_615_788_900)
second off set = record {
  local = pos 1_615_774_500;
  planned = inl refl;
  first = from_set off (pos 1_615_705_200) (neg_ℤ (pos 18_000)) (neg_ℤ (pos 14_400)) (pos 1_615_774_500) (pos 1_615_788_900) set
      (omega (arith, ints), omega (arith, ints)) (omega (arith, ints)) (omega (arith, ints)) (omega (arith, ints)) (inl (omega (arith, ints)));
}

third : (off : ℤ → ℤ) → InSpring off → IsFire off (twice_daily 8_100 9_900) (pos 1_615_790_700)
third off set = record {
  local = pos 1_615_776_300;
  planned = inr refl;
  first = from_set off (pos 1_615_705_200) (neg_ℤ (pos 18_000)) (neg_ℤ (pos 14_400)) (pos 1_615_776_300) (pos 1_615_790_700) set
      (omega (arith, ints), omega (arith, ints)) (omega (arith, ints)) (omega (arith, ints)) (omega (arith, ints)) (inl (omega (arith, ints)));
}

-- each of them is the next one after the one before it
next : (off : ℤ → ℤ) (t u : ℤ) → InSpring off → pos 1_615_698_000 ≤ℤ t → IsFire off (twice_daily 8_100 9_900) u → t <ℤ u → u ≤ℤ pos 1_615_790_700
    → ((v : ℤ) → t <ℤ v → AreThree v → u ≤ℤ v) → IsNextFire off (twice_daily 8_100 9_900) t u
next off t u set from fire after until least = record {
  fires = fire;
  after = after;
  none_skipped = λ v other later. by_lt_z (pos 1_615_790_700) v (λ beyond. omega (arith, ints))
      (λ not. least v later (fires_in_spring off v set other (omega (arith, ints)) (omega (arith, ints))));
}

three : (off : ℤ → ℤ) → InSpring off
    → AreFires off (twice_daily 8_100 9_900) (pos 1_615_698_000) (pos 1_615_790_700) (pos 1_615_705_200 ∷ pos 1_615_788_900 ∷ pos 1_615_790_700 ∷ [])
three off set = (
  next off (pos 1_615_698_000) (pos 1_615_705_200) set (omega (arith, ints)) (first off set) (omega (arith, ints)) (omega (arith, ints))
      (λ v later is. grind (arith, ints, is)),
  omega (arith, ints),
  (
    next off (pos 1_615_705_200) (pos 1_615_788_900) set (omega (arith, ints)) (second off set) (omega (arith, ints)) (omega (arith, ints))
        (λ v later is. grind (arith, ints, is)),
    omega (arith, ints),
    (
      next off (pos 1_615_788_900) (pos 1_615_790_700) set (omega (arith, ints)) (third off set) (omega (arith, ints)) (omega (arith, ints))
          (λ v later is. grind (arith, ints, is)),
      omega (arith, ints),
      λ v fire after until. omega (arith, ints),
    ),
  ),
)

pub returns : goal.returns
returns c = record {
  fires = λ off set. three off set;
  only = λ off us set h. one_list off (twice_daily 8_100 9_900) (pos 1_615_698_000) (pos 1_615_790_700) us _ h (three off set);
}
