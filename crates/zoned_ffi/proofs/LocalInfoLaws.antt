-- The spans around a local time.
use Rattle.zoned_ffi.{proofs.Words.{LocalType, Shows, TypeAt, Zone, arith, ints, pos, subst, ℤ, ◌-ℤ◌, ◌≡◌, IsShownOnce}, specs.WrittenSpans.{IsLocalInfo}}
use Rattle.zoned_ffi.specs.{WrittenSpans.{IsWrittenSpanAt}, declared.local_info.WrittenLocalInfo.{WrittenLocalInfo}}
use Rattle.offset_core.specs.WallAnswer.{IsShownBetween}

-- a local time of a zone
module _ (z : Zone) (local : ℤ) where
  -- a second that shows a local time is that time less the offset
  second_is : (u : ℤ) (t : LocalType) → Shows (TypeAt z) local u t → u ≡ local -ℤ t.offset
  second_is u t shows = omega (arith, ints, shows.shown)

  pub shows_there : (u : ℤ) (t : LocalType) → Shows (TypeAt z) local u t → Shows (TypeAt z) local (local -ℤ t.offset) t
  shows_there u t shows = subst (λ (v : ℤ). Shows (TypeAt z) local v t) (second_is u t shows) shows

  pub once_by : (t : LocalType) (w : WrittenLocalInfo) → IsShownOnce (Shows (TypeAt z) local) t → w.shown ≡ pos 1
      → IsWrittenSpanAt z (local -ℤ t.offset) w.first → w.last ≡ w.first → IsLocalInfo z local w
  once_by t w once shown at same =
      IsLocalInfo.once t once shown (rw (second_is once.second t once.shown) at) same

  pub several_by : (s t : LocalType) (w : WrittenLocalInfo) → IsShownBetween (Shows (TypeAt z) local) s t → w.shown ≡ pos 2
      → IsWrittenSpanAt z (local -ℤ s.offset) w.first → IsWrittenSpanAt z (local -ℤ t.offset) w.last → IsLocalInfo z local w
  several_by s t w between shown first last = IsLocalInfo.several s t between shown
      (rw (second_is between.first s between.at_first) first) (rw (second_is between.last t between.at_last) last)
