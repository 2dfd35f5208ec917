-- Clocks that are set once, by an hour, at 1970-01-01 00:00:00 UTC.
use Rattle.offset_core.specs.{Around.{Takes, taken_in_fold, taken_in_gap}, declared.around.{Around.TheVariants.{Ambiguous, Gap, Single}, Taken.{Taken}}}
use Rattle.offset_core.specs.declared.{choice.Choice.{Choice}, around.Taken.TheVariants.{Shown}}
use Rattle.std.proofs.Common.{Ok, Result}
use Rattle.zoned_time.proofs.ForCallers.{one_taken, taken_once, unresolved_once}
use Rattle.tests_pins.proofs.Words.{IsBeforeGap, IsShownBetween, IsTaken, Reading, ResolveError, ShowsByOffset, Zoned, arith, first_second, ints, last_second}
use Rattle.tests_pins.proofs.Words.{neg_ℤ, pos, refl, set_back, set_forward, sym, ℤ, ◌<ℤ◌, ◌≡◌, ◌≤ℤ◌, ◌⊎◌}
use Rattle.tests_pins.specs.Choices as choices

-- the offsets of both zones before that second, and from then on
sides : (u : ℤ) → ((u <ℤ pos 0) × (set_forward u ≡ pos 0) × (set_back u ≡ pos 3_600)) ⊎ ((pos 0 ≤ℤ u) × (set_forward u ≡ pos 3_600) × (set_back u ≡ pos 0))
sides u = grind (arith, ints)

-- ---- the gap
pub before_gap : IsBeforeGap set_forward (pos 1_800) (pos 0)
before_gap = record {
  never = λ u k s. let is = s.offset in let shown = s.shown in omega (arith, ints, sides u);
  first = pos 0;
  in_zone = omega arith;
  more = omega arith;
  least = λ u inside more. omega (arith, ints, sides u);
  before = refl;
}

pub only_before_gap : (k : ℤ) → IsBeforeGap set_forward (pos 1_800) k → k ≡ pos 0
only_before_gap k h = grind (arith, ints, sides)

-- what each choice takes there
pub takes_gap : (choice : Choice) (outcome : Result (Taken ℤ ℤ) ResolveError) → taken_in_gap {T = ℤ} choice.gap (pos 0) ≡ outcome
    → Takes (ShowsByOffset set_forward (pos 1_800)) (IsBeforeGap set_forward (pos 1_800)) choice outcome
takes_gap choice outcome is = record { around = Gap (pos 0); right = before_gap; taken = is }

pub taken_shifted : (k : ℤ) → IsTaken set_forward (pos 1_800) choices.shift k → k ≡ pos 0
taken_shifted k h = grind (arith, ints, taken_once, takes_gap)

-- ---- the fold
fold : IsShownBetween (ShowsByOffset set_back (pos 1_800)) (pos 3_600) (pos 0)
fold = record {
  first = neg_ℤ (pos 1_800);
  last = pos 1_800;
  several = omega (arith, ints);
  at_first = record { in_zone = omega arith; offset = refl; shown = refl };
  at_last = record { in_zone = omega arith; offset = refl; shown = refl };
  not_before = λ u k s. let is = s.offset in let shown = s.shown in omega (arith, ints, sides u);
  not_after = λ u k s. let is = s.offset in let shown = s.shown in omega (arith, ints, sides u);
}

pub takes_fold : (choice : Choice) (outcome : Result (Taken ℤ ℤ) ResolveError) → taken_in_fold {G = ℤ} choice.fold (pos 3_600) (pos 0) ≡ outcome
    → Takes (ShowsByOffset set_back (pos 1_800)) (IsBeforeGap set_back (pos 1_800)) choice outcome
takes_fold choice outcome is = record { around = Ambiguous (pos 3_600) (pos 0); right = fold; taken = is }

-- what is shown and taken in the fold is taken by no other offset
pub taken_in : (choice : Choice) (j k : ℤ) → taken_in_fold {G = ℤ} choice.fold (pos 3_600) (pos 0) ≡ Ok (Shown j)
    → IsTaken set_back (pos 1_800) choice k → k ≡ j
taken_in choice j k is h = taken_once set_back (pos 1_800) choice k j h (record { taken = Shown j; takes = takes_fold choice (Ok (Shown j)) is; offset = refl })

-- ---- both ends of the range
pub is_taken_below : IsTaken set_back first_second choices.refuse (pos 3_600)
is_taken_below = record {
  taken = Shown (pos 3_600);
  takes = record {
    around = Single (pos 3_600);
    right = record {
      second = neg_ℤ (pos 8_334_601_232_400);
      shown = record { in_zone = omega arith; offset = omega (arith, ints, sides (neg_ℤ (pos 8_334_601_232_400))); shown = refl };
      only = λ u k s. let is = s.offset in let shown = s.shown in omega (arith, ints, sides u);
    };
    taken = refl;
  };
  offset = refl;
}

pub takes_last : Takes (ShowsByOffset set_forward last_second) (IsBeforeGap set_forward last_second) choices.refuse (Ok (Shown (pos 3_600)))
takes_last = record {
  around = Single (pos 3_600);
  right = record {
    second = pos 8_210_266_873_199;
    shown = record { in_zone = omega arith; offset = refl; shown = refl };
    only = λ u k s. let is = s.offset in let shown = s.shown in omega (arith, ints, sides u);
  };
  taken = refl;
}

-- ---- instants
pub zoned_is : (d : Zoned ℤ) (r : Reading) (k : ℤ) → d.utc ≡ r → d.offset ≡ k → d ≡ record { utc = r; offset = k }
zoned_is d r k h e = rw (sym h, sym e) refl

pub ruleset set_clocks =
    (ints, one_taken, taken_once, unresolved_once, before_gap, only_before_gap, takes_gap, taken_shifted, is_taken_below, takes_last, zoned_is)
