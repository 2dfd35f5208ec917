-- Days of zones: from seconds to instants.
use Rattle.zoned_time.proofs.Words.{AreEndsOfDay, AreInstantsOfDay, HasInstant, HasReached, IsAt, IsFirstInstantFrom, IsFirstOutOfRange}
use Rattle.zoned_time.proofs.Words.{IsFirstSecondOutOfRange, IsFirstToReach, IsFixed, IsInRange, IsInstantFrom, IsNoDay, IsOnDay, IsZonedAtOrAfter}
use Rattle.zoned_time.proofs.Words.{IsZonedFirst, IsZoneSecond, Law, MatchOption, Meaning, None, Option, Reading, Some, SomeIff, Zoned, ap, arith, floor_div}
use Rattle.zoned_time.proofs.Words.{instant_of, numbers, of_secs, option_map, pos, rules, ℤ, ◌*ℤ◌, ◌+ℤ◌, ◌-ℤ◌, ◌<ℤ◌, ◌∙◌, ◌≡◌, ◌≤ℤ◌, ◌⊎◌}

-- ---- days
pub instants_of_day : {O : Type 0} {m : Meaning O} (law : Law m) (day u v : ℤ) (d e : Zoned O) → AreEndsOfDay law.off day u v → IsAt law (of_secs u 0) d
    → IsAt law (of_secs v 0) e → AreInstantsOfDay law day d e
instants_of_day = grind arith

pub no_day : {off : ℤ → ℤ} {day v : ℤ} → IsOnDay off day v → (IsInRange v → ⊥) → IsNoDay off day
no_day = grind arith

-- the day that the clocks show at a second
on_own_day : (off : ℤ → ℤ) (u : ℤ) → IsZoneSecond u → IsOnDay off (floor_div (u +ℤ off u) 86_400) u
on_own_day off u inside = search (rules, numbers)

pub day_of_told : {O T : Type 0} {m : Meaning O} (law : Law m) (first last : T → Zoned O) (u day : ℤ) (found : Option T) → IsInRange u
    → day ≡ floor_div (u +ℤ law.off u) 86_400
    → MatchOption found (IsNoDay law.off day) (λ d. AreInstantsOfDay law day (first d) (last d))
    → let own = floor_div (u +ℤ law.off u) 86_400 in
    MatchOption found (IsNoDay law.off own) (λ d. AreInstantsOfDay law own (first d) (last d) × ((first d).utc.s ≤ℤ u) × (u ≤ℤ (last d).utc.s))
day_of_told law first last u day None inside is h = rw is at h
day_of_told law first last u day (Some d) inside is h = grind (arith, on_own_day)

-- the first instant at or after a local time
module _ {off : ℤ → ℤ} {l : Reading} where
  pub to_reached : {q : Reading} → IsInstantFrom off l q → HasReached off l.s q.s
  to_reached = grind arith

  -- at the first second at which clocks reach the second of the local time: they show that second, and the nanoseconds are kept,
  -- or they show a later one
  pub first_instant : {r : Reading} → IsFirstToReach off l.s r.s
      → ((r.s +ℤ off r.s ≡ l.s) × (r.f ≡ l.f)) ⊎ ((l.s <ℤ (r.s +ℤ off r.s)) × (r.f ≡ 0)) → IsFirstInstantFrom off l r
  first_instant = grind numbers

  -- the local time has no nanoseconds, as a midnight
  pub first_whole : {u : ℤ} → l.f ≡ 0 → IsFirstToReach off l.s u → IsFirstInstantFrom off l (of_secs u 0)
  first_whole = grind numbers

  pub out_of_range : {u : ℤ} → IsFirstToReach off l.s u → (IsInRange u → ⊥) → IsFirstOutOfRange off l
  out_of_range {u = u} h out = grind (numbers, first_instant {r = of_secs u 0} h, first_instant {r = record { s = u; f = l.f }} h)

-- the instant at which a clock with the offset of that second shows the local time, if clocks show its second then
pub told_exact : {O T : Type 0} {m : Meaning O} (law : Law m) (l : Reading) (u : ℤ) (seconds : O → ℤ) (whole : Zoned O) (told : T → Zoned O) (found : Option T)
    → ((o : O) → m.seconds o ≡ seconds o) → IsFirstToReach law.off l.s u → IsInRange u → IsAt law (of_secs u 0) whole
    → (whole.utc.s +ℤ seconds whole.offset) ≡ l.s
    → SomeIff (option_map told found) (HasInstant seconds l whole.offset) (instant_of seconds l whole.offset)
    → MatchOption found (IsFirstOutOfRange law.off l) (λ d. IsZonedAtOrAfter law l (told d))
told_exact law l u seconds whole told found by_seconds h inside at shown is =
    let utc : whole.utc.s ≡ l.s -ℤ seconds whole.offset = omega numbers in grind numbers

-- and the second itself, if they show a later one
pub told_later : {O : Type 0} {m : Meaning O} {law : Law m} (l : Reading) {u : ℤ} {seconds : O → ℤ} {whole : Zoned O} → ((o : O) → m.seconds o ≡ seconds o)
    → IsFirstToReach law.off l.s u → IsAt law (of_secs u 0) whole → ((whole.utc.s +ℤ seconds whole.offset) ≡ l.s → ⊥) → IsZonedAtOrAfter law l whole
told_later = grind numbers

-- the first second as an instant of the zone
pub zoned_first : {O T : Type 0} {m : Meaning O} (law : Law m) (l u : ℤ) (told : T → Zoned O) (found : Option T) → IsFirstToReach law.off l u
    → MatchOption found (IsInRange u → ⊥) (λ d. IsInRange u × IsAt law (of_secs u 0) (told d))
    → MatchOption found (IsFirstSecondOutOfRange law.off l) (λ d. IsZonedFirst law l (told d))
zoned_first = grind arith

-- a zone whose clocks are never set
module _ {O : Type 0} {m : Meaning O} (law : Law m) (fixed : IsFixed law) where
  fixed_first : (l noon u : ℤ) → IsZoneSecond noon → IsZoneSecond u → u +ℤ law.off noon ≡ l → IsFirstToReach law.off l u
  fixed_first l noon u here inside shown = record {
    reached = record { in_zone = inside; reached = let same = fixed u noon inside here in omega numbers };
    first = λ v h. let same = fixed v noon h.in_zone here in omega numbers;
  }

  pub fixed_shown : (l u : ℤ) → IsZoneSecond l → IsZoneSecond u → u +ℤ law.off l ≡ l → ((u +ℤ law.off u) ≡ l) × IsFirstToReach law.off l u
  fixed_shown l u here inside shown = (ap (λ k. u +ℤ k) (fixed u l inside here) ∙ shown, fixed_first l l u here inside shown)

  pub fixed_ends : (day u : ℤ) → IsZoneSecond u → IsZoneSecond (u +ℤ pos 86_399) → (u +ℤ law.off u) ≡ day *ℤ pos 86_400 +ℤ pos 0
      → AreEndsOfDay law.off day u (u +ℤ pos 86_399)
  fixed_ends day u inside last shown = record {
    shown_first = record { in_zone = inside; since = omega numbers; before = omega numbers };
    shown_last = let same = fixed (u +ℤ pos 86_399) u last inside in record { in_zone = last; since = omega numbers; before = omega numbers };
    not_before = λ v h. let same = fixed v u h.in_zone inside in omega numbers;
    not_after = λ v h. let same = fixed v u h.in_zone inside in omega numbers;
  }
