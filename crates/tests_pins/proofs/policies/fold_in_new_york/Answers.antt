use Rattle.zoned_plans.specs.{Nearest.{IsNextOf}, Policies.{IsFireBy, IsShownFire}, declared.policies.{FirePolicy.{FirePolicy}, FoldFires.{FoldFires}}}
use Rattle.tests_pins.specs.Plans.{daily}
use Rattle.tests_pins.proofs.{SetFires.{before_set, from_set, shown_after, shown_before}, SetPolicies.{one_next}}
use Rattle.tests_pins.proofs.Words.{AreSetAt, IsFire, arith, by_lt_z, floors, inl, inr, ints, neg_ℤ, pos, refl, subst, sym, ℤ, ◌+ℤ◌, ◌<ℤ◌, ◌≡◌, ◌≤ℤ◌}
use Rattle.tests_pins.proofs.policies.fold_in_new_york.Goals as goal

abbrev InAutumn : (ℤ → ℤ) → Type 0
InAutumn off = AreSetAt off (pos 1_636_264_800) (neg_ℤ (pos 14_400)) (neg_ℤ (pos 18_000))

first : (off : ℤ → ℤ) → InAutumn off → IsFire off (daily 5_400) (pos 1_636_263_000)
first off set = record {
  local = pos 1_636_248_600;
  planned = refl;
  first = before_set off (pos 1_636_264_800) (neg_ℤ (pos 14_400)) (neg_ℤ (pos 18_000)) (pos 1_636_248_600) (pos 1_636_263_000) set
      (omega (arith, ints), omega (arith, ints)) (omega (arith, ints)) refl;
}

second : (off : ℤ → ℤ) → InAutumn off → IsShownFire off (daily 5_400) (pos 1_636_266_600)
second off set = record {
  in_zone = (omega (arith, ints), omega (arith, ints));
  planned = subst (λ (o : ℤ). daily 5_400 (pos 1_636_266_600 +ℤ o)) (sym (set.from (pos 1_636_266_600) (omega (arith, ints)))) refl;
}

next_day : (off : ℤ → ℤ) → InAutumn off → IsFire off (daily 5_400) (pos 1_636_353_000)
next_day off set = record {
  local = pos 1_636_335_000;
  planned = refl;
  first = from_set off (pos 1_636_264_800) (neg_ℤ (pos 14_400)) (neg_ℤ (pos 18_000)) (pos 1_636_335_000) (pos 1_636_353_000) set
      (omega (arith, ints), omega (arith, ints)) (omega (arith, ints)) (omega (arith, ints)) (omega (arith, ints)) (inl (omega (arith, ints)));
}

-- no run on the first pass comes before the one of the day after
fire_later : (off : ℤ → ℤ) (v : ℤ) → InAutumn off → IsFire off (daily 5_400) v → pos 1_636_263_000 <ℤ v → pos 1_636_353_000 ≤ℤ v
fire_later off v set fire after = by_lt_z v (pos 1_636_353_000)
    (λ less. let planned = fire.planned in
    by_lt_z v (pos 1_636_264_800)
    (λ early. let is = shown_before off (pos 1_636_264_800) (neg_ℤ (pos 14_400)) (neg_ℤ (pos 18_000)) fire.local v set
    (omega (arith, ints, after, less), omega (arith, ints, after, less)) early fire.first in absurd (omega (arith, ints, floors, is, planned, early, after)))
    (λ from. by_lt_z (pos 1_636_264_800) v
    (λ late. let is = shown_after off (pos 1_636_264_800) (neg_ℤ (pos 14_400)) (neg_ℤ (pos 18_000)) fire.local v set
    (omega (arith, ints, after, less), omega (arith, ints, after, less)) (omega (arith, ints), omega (arith, ints)) late fire.first in
    absurd (omega (arith, ints, floors, is, planned, late, less)))
    (λ not. let there = fire.first.reached.reached in let now = set.from v from in let last = set.before (pos 1_636_264_799) (omega (arith, ints)) in
    let least = fire.first.first (pos 1_636_264_799)
    (record { in_zone = (omega (arith, ints), omega (arith, ints)); reached = omega (arith, ints, there, now, last, not) }) in
    absurd (omega (arith, ints, least, from)))))
    (λ not. not)

next : (off : ℤ → ℤ) (policy : FirePolicy) → policy.fold ≡ FoldFires.FirstPass → InAutumn off
    → IsNextOf (IsFireBy policy off (daily 5_400)) (pos 1_636_263_000) (pos 1_636_353_000)
next off policy once set = record {
  fires = record {
    fires = inl (next_day off set);
    first = λ _. next_day off set;
    shown = λ _. record {
      in_zone = (omega (arith, ints), omega (arith, ints));
      planned = subst (λ (o : ℤ). daily 5_400 (pos 1_636_353_000 +ℤ o)) (sym (set.from (pos 1_636_353_000) (omega (arith, ints)))) refl;
    };
  };
  after = omega (arith, ints);
  none_skipped = λ v it later. fire_later off v set (it.first once) later;
}

pub returns : goal.returns
returns c = record {
  first_pass = λ off policy set. record {
    fires = inl (first off set);
    first = λ _. first off set;
    shown = λ _. record {
      in_zone = (omega (arith, ints), omega (arith, ints));
      planned = subst (λ (o : ℤ). daily 5_400 (pos 1_636_263_000 +ℤ o)) (sym (set.before (pos 1_636_263_000) (omega (arith, ints)))) refl;
    };
  };
  second_pass = λ off policy each set. record {
    fires = inr (second off set);
    first = λ once. grind (arith, each, once);
    shown = λ _. second off set;
  };
  next = next;
  only = λ off policy u once set it. one_next (IsFireBy policy off (daily 5_400)) (pos 1_636_263_000) u (pos 1_636_353_000) it (next off policy once set);
}
