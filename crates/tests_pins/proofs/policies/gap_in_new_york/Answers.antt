use Rattle.zoned_plans.specs.{Nearest.{IsNextOf}, Policies.{IsFireBy, IsShownFire}, declared.policies.{FirePolicy.{FirePolicy}, GapFires.{GapFires}}}
use Rattle.tests_pins.specs.Plans.{daily}
use Rattle.tests_pins.proofs.{SetFires.{InSpring, from_set}, SetPolicies.{one_next, planned_before, planned_from}}
use Rattle.tests_pins.proofs.Words.{IsFire, arith, by_lt_z, floors, inl, inr, ints, neg_ℤ, pos, refl, subst, sym, ℤ, ◌+ℤ◌, ◌<ℤ◌, ◌≡◌, ◌≤ℤ◌}
use Rattle.tests_pins.proofs.policies.gap_in_new_york.Goals as goal

fire : (off : ℤ → ℤ) → InSpring off → IsFire off (daily 9_000) (pos 1_615_705_200)
fire off set = record {
  local = pos 1_615_689_000;
  planned = refl;
  first = from_set off (pos 1_615_705_200) (neg_ℤ (pos 18_000)) (neg_ℤ (pos 14_400)) (pos 1_615_689_000) (pos 1_615_705_200) set
      (omega (arith, ints), omega (arith, ints)) (omega (arith, ints)) (omega (arith, ints)) (omega (arith, ints)) (inr refl);
}

-- from midnight on clocks show 02:30 first on the day after
shown_later : (off : ℤ → ℤ) (v : ℤ) → InSpring off → IsShownFire off (daily 9_000) v → pos 1_615_698_000 <ℤ v → pos 1_615_789_800 ≤ℤ v
shown_later off v set shown after = by_lt_z v (pos 1_615_705_200)
    (λ early. let is = planned_before off (daily 9_000) (pos 1_615_705_200) (neg_ℤ (pos 18_000)) (neg_ℤ (pos 14_400)) v set early shown in
    absurd (omega (arith, ints, floors, is, early, after)))
    (λ late. let is = planned_from off (daily 9_000) (pos 1_615_705_200) (neg_ℤ (pos 18_000)) (neg_ℤ (pos 14_400)) v set late shown in
    omega (arith, ints, floors, is, late))

-- they do so then, for the first time
next_day : (off : ℤ → ℤ) → InSpring off → IsFire off (daily 9_000) (pos 1_615_789_800)
next_day off set = record {
  local = pos 1_615_775_400;
  planned = refl;
  first = from_set off (pos 1_615_705_200) (neg_ℤ (pos 18_000)) (neg_ℤ (pos 14_400)) (pos 1_615_775_400) (pos 1_615_789_800) set
      (omega (arith, ints), omega (arith, ints)) (omega (arith, ints)) (omega (arith, ints)) (omega (arith, ints)) (inl (omega (arith, ints)));
}

next : (off : ℤ → ℤ) (policy : FirePolicy) → policy.gap ≡ GapFires.Never → InSpring off
    → IsNextOf (IsFireBy policy off (daily 9_000)) (pos 1_615_698_000) (pos 1_615_789_800)
next off policy never set = record {
  fires = record {
    fires = inl (next_day off set);
    first = λ _. next_day off set;
    shown = λ _. record {
      in_zone = (omega (arith, ints), omega (arith, ints));
      planned = subst (λ (o : ℤ). daily 9_000 (pos 1_615_789_800 +ℤ o)) (sym (set.from (pos 1_615_789_800) (omega (arith, ints)))) refl;
    };
  };
  after = omega (arith, ints);
  none_skipped = λ v it later. shown_later off v set (it.shown never) later;
}

pub returns : goal.returns
returns c = record {
  at_end = λ off policy is set. record {
    fires = inl (fire off set);
    first = λ _. fire off set;
    shown = λ never. grind (arith, is, never);
  };
  not_shown = λ off set shown.
      let is = planned_from off (daily 9_000) (pos 1_615_705_200) (neg_ℤ (pos 18_000)) (neg_ℤ (pos 14_400)) (pos 1_615_705_200) set (omega (arith, ints))
      shown in omega (arith, ints, floors, is);
  never = λ off policy never set it.
      let is = planned_from off (daily 9_000) (pos 1_615_705_200) (neg_ℤ (pos 18_000)) (neg_ℤ (pos 14_400)) (pos 1_615_705_200) set (omega (arith, ints))
      (it.shown never) in omega (arith, ints, floors, is);
  next = next;
  only = λ off policy u never set it. one_next (IsFireBy policy off (daily 9_000)) (pos 1_615_698_000) u (pos 1_615_789_800) it (next off policy never set);
}
