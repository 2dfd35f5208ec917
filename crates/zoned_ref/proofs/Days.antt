-- When clocks show certain local times: by the types in force as by their offsets.
use Rattle.tz_info.{proofs.Words.{AreEndsWithin, IsFirstAtOrAfter, IsNeverWithin, ShowsWithin}, specs.ShownSeconds.{IsLastReached}}
use Rattle.zoned_time.proofs.Words.{HasReached, IsFirstToReach, IsFirstSecondOutOfRange, IsZonedFirst, IsOffsetStretch, IsOnDay, IsWideDay, ◌<ℤ◌}
use Rattle.zoned_ref.proofs.Words.{AreEndsOfDay, AreOffsetsOf, IsNarrow, IsNeverOnDay, IsAt, IsInRange, IsReachedAt, IsWithinDay, Law, MatchOption, Meaning}
use Rattle.zoned_ref.proofs.Words.{None, Option, Some, Zoned, of_secs, refl, IsWide, IsZoneSecond, LocalType, ShownSeconds, TypeAt, Zone, ap}
use Rattle.zoned_ref.proofs.{Words.{arith, ints, pos, sym, type_once, ℤ, ◌*ℤ◌, ◌+ℤ◌, ◌-ℤ◌, ◌∙◌, ◌≡◌, ◌≤ℤ◌}, Offsets.{type_within}}

abbrev OnDayByType : Zone → ℤ → ℤ → LocalType → Type 0
OnDayByType z day u t = ShowsWithin (TypeAt z) (pos 86_400 *ℤ day) (pos 86_400 *ℤ day +ℤ pos 86_400) u t

-- `off` shows the offsets of the zone
module _ (z : Zone) (off : ℤ → ℤ) (of_zone : AreOffsetsOf z off) where
  -- the offset is that of the type in force
  pub same_offset : (u : ℤ) (t : LocalType) → IsZoneSecond u → TypeAt z u t → off u ≡ t.offset
  same_offset u t inside in_force = let there = of_zone u inside in
      there.offset ∙ ap (λ (y : LocalType). y.offset) (type_once z u there.type t there.in_force in_force)

  -- ---- days
  on_day_by_type : (day u : ℤ) → IsOnDay off day u → (t : LocalType) × OnDayByType z day u t
  on_day_by_type day u h = grind (arith, ints)

  pub never_on_day : (day : ℤ) → IsNeverWithin (TypeAt z) (pos 86_400 *ℤ day) (pos 86_400 *ℤ day +ℤ pos 86_400) → IsNeverOnDay off day
  never_on_day day never u h = let t = on_day_by_type day u h in never u t.0 t.1

  -- ---- stretches of one offset
  pub stretch_by_type : (s from until k : ℤ) → from ≤ℤ s → s <ℤ until
      → ((u : ℤ) → from ≤ℤ u → u <ℤ until → (t : LocalType) × TypeAt z u t × (k ≡ t.offset)) → IsOffsetStretch off s from until k
  stretch_by_type s from until k low high each = record {
    not_before = low;
    before = high;
    same = λ u inside since before. let at = each u since before in same_offset u at.0 inside at.1 ∙ sym at.2;
  }

-- and each of them is within a day
module _ (z : Zone) (off : ℤ → ℤ) (narrow : IsNarrow z) (of_zone : AreOffsetsOf z off) where
  on_day_by_offset : (day u : ℤ) (t : LocalType) → IsWideDay day → OnDayByType z day u t → IsOnDay off day u
  on_day_by_offset day u t wide h =
      let within = type_within z u t narrow h.type in let inside : IsZoneSecond u = grind (arith, ints) in
      grind (arith, ints, same_offset z off of_zone u t inside h.type)

  pub ends_of_day : (day : ℤ) (s : ShownSeconds) → IsWideDay day
      → AreEndsWithin (TypeAt z) (pos 86_400 *ℤ day) (pos 86_400 *ℤ day +ℤ pos 86_400) s → AreEndsOfDay off day s.first.at s.last.at
  ends_of_day day s wide h = record {
    shown_first = on_day_by_offset day s.first.at s.first.local_time_type wide h.first.shown;
    shown_last = on_day_by_offset day s.last.at s.last.local_time_type wide h.last.shown;
    not_before = λ u k. let t = on_day_by_type z off of_zone day u k in h.first.first u t.0 t.1;
    not_after = λ u k. let t = on_day_by_type z off of_zone day u k in h.last.last u t.0 t.1;
  }

  -- ---- the first second at or after a local time
  -- a day after the local time clocks have reached it
  reached_a_day_on : (l : ℤ) → IsWide l → HasReached off l (l +ℤ pos 86_399)
  reached_a_day_on l wide =
      let there = of_zone (l +ℤ pos 86_399) (grind (arith, ints)) in
      let within = type_within z (l +ℤ pos 86_399) there.type narrow there.in_force in grind (arith, ints)

  pub first_to_reach : (l u : ℤ) (t : LocalType) → IsWide l → IsFirstAtOrAfter (TypeAt z) l u t → IsFirstToReach off l u
  first_to_reach l u t wide h =
      let latest = reached_a_day_on l wide in let within = type_within z u t narrow h.shown.type in
      let inside : IsZoneSecond u = grind (arith, ints) in grind (arith, ints, same_offset z off of_zone u t inside h.shown.type)

  -- ---- the last local time that clocks have shown
  -- it is less than a day ahead of the second, and the same by offsets
  pub reached_ahead : (t l k : ℤ) → IsInRange t → IsLastReached (TypeAt z) t l → k ≡ t → IsWithinDay (l -ℤ k) × IsReachedAt off t (t +ℤ (l -ℤ k))
  reached_ahead t l k range h second =
      let here = of_zone t (omega (arith, ints), omega (arith, ints)) in let now = type_within z t here.type narrow here.in_force in
      let least = h.last (t +ℤ here.type.offset) t here.type (omega (arith, ints))
      (record { fits = omega (arith, ints); type = here.in_force; shown = refl }) in
      let then = type_within z h.at h.local_type narrow h.shown.type in
      let inside_then : IsZoneSecond h.at = (omega (arith, ints), omega (arith, ints)) in
      let same = same_offset z off of_zone h.at h.local_type inside_then h.shown.type in (
        (omega (arith, ints), omega (arith, ints)),
        record {
          at = h.at;
          in_zone = inside_then;
          not_after = h.not_after;
          shown = omega (arith, ints);
          last = λ u in_zone until. let k = of_zone u in_zone in
              let most = h.last (u +ℤ k.type.offset) u k.type until (record { fits = omega (arith, ints); type = k.in_force; shown = refl }) in
              omega (arith, ints);
        },
      )

pub zoned_first : {O T : Type 0} {m : Meaning O} (law : Law m) (l u : ℤ) (p : T → Type 0) (told : T → Zoned O) (found : Option T)
    → IsFirstToReach law.off l u → MatchOption found (IsInRange u → ⊥) (λ d. IsInRange u × IsAt law (of_secs u 0) (told d) × p d)
    → MatchOption found (IsFirstSecondOutOfRange law.off l) (λ d. IsZonedFirst law l (told d))
zoned_first law l u p told None first h = (u, first, h)
zoned_first law l u p told (Some d) first h =
    let same : (told d).utc.s ≡ u = grind arith in grind arith
