-- Clocks that are an hour ahead of UTC before second 0, and not from then on, for pins: they show 1800 at -1800 and at 1800.
use Rattle.zoned_ffi.proofs.Words.{LocalType, Shows, arith, inl, inr, ints, neg_ℤ, pos, refl, ℤ, ◌+ℤ◌, ◌<ℤ◌, ◌≡◌, ◌≤ℤ◌}
use Rattle.naive_base.proofs.Words.{by_lt_z}
use Rattle.offset_core.specs.WallAnswer.{IsShownBetween}
use Rattle.tz_info.specs.Folds.{HasFold}
use Rattle.zoned_ffi.specs.Steps.SetBack.{set_back, summer, winter}

from_first : (u : ℤ) (t : LocalType) → Shows set_back (pos 1_800) u t → neg_ℤ (pos 1_800) ≤ℤ u
from_first u t shows = grind (arith, ints)

to_last : (u : ℤ) (t : LocalType) → Shows set_back (pos 1_800) u t → u ≤ℤ pos 1_800
to_last u t shows = grind (arith, ints)

pub several : IsShownBetween (Shows set_back (pos 1_800)) summer winter
several = record {
  first = neg_ℤ (pos 1_800);
  last = pos 1_800;
  several = omega (arith, ints);
  at_first = record { fits = omega (arith, ints); type = inl (omega (arith, ints), refl); shown = omega (arith, ints) };
  at_last = record { fits = omega (arith, ints); type = inr (omega (arith, ints), refl); shown = omega (arith, ints) };
  not_before = from_first;
  not_after = to_last;
}

less_later : (u : ℤ) (t : LocalType) → pos 0 ≤ℤ u → u <ℤ pos 1_800 → set_back u t → (u +ℤ t.offset) <ℤ pos 1_800
less_later u t since before here = grind (arith, ints)

pub fold : HasFold set_back (pos 1_800) summer winter (pos 0)
unfolding several
fold = record {
  first_type = summer;
  last_type = winter;
  several = several;
  not_later = omega (arith, ints);
  here = inr (omega (arith, ints), refl);
  earlier = inl (omega (arith, ints), refl);
  reached = omega (arith, ints);
  less = less_later;
}

-- the last second that shows it, in any fold of it, is 1800
is_last : (before after : LocalType) (at : ℤ) → (h : HasFold set_back (pos 1_800) before after at) → h.several.last ≡ pos 1_800
is_last before after at h =
    let most = to_last h.several.last h.last_type h.several.at_last in
    let least = h.several.not_after (pos 1_800) winter
    (record { fits = omega (arith, ints); type = inr (omega (arith, ints), refl); shown = omega (arith, ints) }) in
    omega (arith, ints)

pub only_fold : (before after : LocalType) (at : ℤ) → HasFold set_back (pos 1_800) before after at → at ≡ pos 0
only_fold before after at h =
    let last = is_last before after at h in let earlier = h.earlier in
    by_lt_z at (pos 0)
    (λ l. absurd (omega (arith, ints, h.less (neg_ℤ (pos 1)) summer (omega (arith, ints)) (omega (arith, ints)) (inl (omega (arith, ints), refl)))))
    (λ m. grind (arith, ints))
