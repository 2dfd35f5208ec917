-- Runs at noon in New York in March 2021, and in a zone that is always five hours behind UTC.
use Rattle.tests_pins.specs.{Days.{IsAlways}, Plans.{daily}}
use Rattle.zoned_plans.specs.Moves.{FiresInFirstOnly, IsMove}
use Rattle.tests_pins.proofs.SetFires.{InSpring, before_set, from_set, shown_after, shown_before}
use Rattle.tests_pins.proofs.Words.{AreSetAt, IsFire, IsZoneSecond, arith, by_lt_z, floors, inl, inr, ints, neg_ℤ, pos, refl, ℤ, ◌+ℤ◌, ◌-ℤ◌, ◌<ℤ◌, ◌≤ℤ◌}

set_at : (off : ℤ → ℤ) (at k : ℤ) → IsAlways off k → AreSetAt off at k k
set_at off at k always = record { before = λ u _. always u; from = λ u _. always u }

abbrev pub Always : (ℤ → ℤ) → Type 0
Always off = IsAlways off (neg_ℤ (pos 18_000))

-- at 17:00 UTC on the day before
same : (off : ℤ → ℤ) (m : ℤ) → AreSetAt off (pos 1_615_705_200) (neg_ℤ (pos 18_000)) m → IsFire off (daily 43_200) (pos 1_615_654_800)
same off m set = record {
  local = pos 1_615_636_800;
  planned = refl;
  first = before_set off (pos 1_615_705_200) (neg_ℤ (pos 18_000)) m (pos 1_615_636_800) (pos 1_615_654_800) set (omega (arith, ints), omega (arith, ints))
      (omega (arith, ints)) refl;
}

-- on the day itself: at 16:00 UTC, and at 17:00 UTC
removed : (off : ℤ → ℤ) → InSpring off → IsFire off (daily 43_200) (pos 1_615_737_600)
removed off set = record {
  local = pos 1_615_723_200;
  planned = refl;
  first = from_set off (pos 1_615_705_200) (neg_ℤ (pos 18_000)) (neg_ℤ (pos 14_400)) (pos 1_615_723_200) (pos 1_615_737_600) set
      (omega (arith, ints), omega (arith, ints)) (omega (arith, ints)) (omega (arith, ints)) (omega (arith, ints)) (inl (omega (arith, ints)));
}

added : (off : ℤ → ℤ) → Always off → IsFire off (daily 43_200) (pos 1_615_741_200)
added off always = record {
  local = pos 1_615_723_200;
  planned = refl;
  first = before_set off (pos 1_700_000_000) (neg_ℤ (pos 18_000)) (neg_ℤ (pos 18_000)) (pos 1_615_723_200) (pos 1_615_741_200)
      (set_at off _ _ always) (omega (arith, ints), omega (arith, ints)) (omega (arith, ints)) refl;
}

-- New York has no other run than that from after the day before up to it
only_there : (off : ℤ → ℤ) (v : ℤ) → InSpring off → IsFire off (daily 43_200) v → pos 1_615_654_800 <ℤ v → v ≤ℤ pos 1_615_741_200 → pos 1_615_737_600 ≤ℤ v
only_there off v set fire after until =
    let at : ℤ = pos 1_615_705_200 in let k : ℤ = neg_ℤ (pos 18_000) in let m : ℤ = neg_ℤ (pos 14_400) in
    let inside : IsZoneSecond (v -ℤ pos 1) = (omega (arith, ints), omega (arith, ints)) in let l = fire.local in let planned = fire.planned in
    by_lt_z v at
    (λ early. let is = shown_before off at k m l v set inside early fire.first in absurd (omega (arith, ints, floors)))
    (λ from. by_lt_z at v
    (λ late. let is = (shown_after off at k m l v set inside (omega (arith, ints), omega (arith, ints)) late fire.first).0 in omega (arith, ints, floors))
    (λ not.
    let reached = fire.first.reached.reached in let now = set.from v from in let before = set.before (v -ℤ pos 1) (omega (arith, ints)) in
    by_lt_z (v -ℤ pos 1 +ℤ k) l (λ less. absurd (omega (arith, ints, floors)))
    (λ more. let least = fire.first.first (v -ℤ pos 1) (record { in_zone = inside; reached = omega (arith, ints) }) in absurd (omega (arith, ints)))))

-- and the other zone has none before 17:00 UTC
none_there : (off : ℤ → ℤ) (v : ℤ) → Always off → IsFire off (daily 43_200) v → pos 1_615_654_800 <ℤ v → v <ℤ pos 1_615_741_200 → ⊥
none_there off v always fire after until =
    let is = shown_before off (pos 1_700_000_000) (neg_ℤ (pos 18_000)) (neg_ℤ (pos 18_000)) fire.local v (set_at off _ _ always)
    (omega (arith, ints), omega (arith, ints)) (omega (arith, ints)) fire.first in
    let planned = fire.planned in omega (arith, ints, floors)

pub first_only : (old new : ℤ → ℤ) → InSpring old → Always new → FiresInFirstOnly old new (daily 43_200) (pos 1_615_737_600)
first_only old new set always =
    (removed old set, λ fire. none_there new (pos 1_615_737_600) always fire (omega (arith, ints)) (omega (arith, ints)))

pub second_only : (old new : ℤ → ℤ) → InSpring old → Always new → FiresInFirstOnly new old (daily 43_200) (pos 1_615_741_200)
second_only old new set always = (
  added new always,
  λ fire.
      let is = (shown_after old (pos 1_615_705_200) (neg_ℤ (pos 18_000)) (neg_ℤ (pos 14_400)) fire.local (pos 1_615_741_200) set
      (omega (arith, ints), omega (arith, ints)) (omega (arith, ints), omega (arith, ints)) (omega (arith, ints)) fire.first).0 in
      let planned = fire.planned in omega (arith, ints, floors),
)

pub stays : (old new : ℤ → ℤ) → InSpring old → Always new → IsMove old new (daily 43_200) (pos 1_615_654_800) → ⊥
stays old new set always move = elim move [
  | inl gone ↦ gone.1 (same new (neg_ℤ (pos 18_000)) (set_at new _ _ always))
  | inr come ↦ come.1 (same old (neg_ℤ (pos 14_400)) set)
]

pub none_before : (old new : ℤ → ℤ) (v : ℤ) → InSpring old → Always new → IsMove old new (daily 43_200) v → pos 1_615_654_800 <ℤ v → pos 1_615_737_600 ≤ℤ v
none_before old new v set always move after = by_lt_z v (pos 1_615_737_600)
    (λ early. absurd (elim move [
      | inl gone ↦ let late = only_there old v set gone.0 after (omega (arith, ints)) in omega (arith, ints)
      | inr come ↦ none_there new v always come.0 after (omega (arith, ints))
    ]))
    (λ not. not)
