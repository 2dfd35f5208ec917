-- Fires at which clocks show a plan's local times, and the search for them from stretch to stretch.
use Rattle.zoned_plans.proofs.Words.{AreAllQuiet, AreQuiet, HasNoneAfter, IsAt, IsEither, IsFirstPlannedIn, IsFirstShown, IsInRange, IsNextAfter}
use Rattle.zoned_plans.proofs.Words.{IsOffsetStretch, IsPast, IsShownFire, IsWide, IsZonedNextFire, IsZonedNextOf, IsZoneSecond, Law, MatchOption, Meaning, None}
use Rattle.zoned_plans.proofs.Words.{NoneAfter, NoneFiresAfter, NonePlannedIn, Option, Some, Zoned, by_lt_z, numbers, of_secs, pos, ℤ, ◌+ℤ◌, ◌-ℤ◌, ◌<ℤ◌, ◌↔◌}
use Rattle.zoned_plans.proofs.Words.{◌≡◌, ◌≤ℤ◌}
use Rattle.zoned_plans.proofs.Words.{StayWithinDay}

-- fires after the second t of a zone with that law, at which clocks show a local time of the plan
module _ {O : Type 0} {m : Meaning O} {law : Law m} {plan : ℤ → Type 0} {t : ℤ} where
  pub first_shown : {from : ℤ} {d : Zoned O} → IsPast (IsFirstShown law.off plan) t from → IsInRange t → IsInRange d.utc.s → IsZonedNextFire law plan from d
      → plan (d.utc.s +ℤ law.off d.utc.s) → IsZonedNextOf law (IsFirstShown law.off plan) t d
  first_shown = grind numbers

  pub not_shown : {from : ℤ} {d : Zoned O} → IsPast (IsFirstShown law.off plan) t from → IsZonedNextFire law plan from d
      → (plan (d.utc.s +ℤ law.off d.utc.s) → ⊥) → IsPast (IsFirstShown law.off plan) t d.utc.s
  not_shown = grind numbers

  -- both kinds of fires
  pub only_fire : {d : Zoned O} → IsInRange t → IsInRange d.utc.s → IsZonedNextFire law plan t d
      → ((v : ℤ) → IsInRange v → IsShownFire law.off plan v → t <ℤ v → d.utc.s ≤ℤ v) → IsZonedNextOf law (IsEither law.off plan) t d
  only_fire low range h none = grind numbers

  pub pass_first : {d e : Zoned O} → IsZonedNextOf law (IsShownFire law.off plan) t d → IsZonedNextFire law plan t e → d.utc.s <ℤ e.utc.s
      → IsZonedNextOf law (IsEither law.off plan) t d
  pass_first h k less = grind numbers

  pub fire_first : {d e : Zoned O} → IsInRange t → IsInRange d.utc.s → IsZonedNextFire law plan t d
      → IsZonedNextOf law (IsShownFire law.off plan) t e → d.utc.s ≤ℤ e.utc.s → IsZonedNextOf law (IsEither law.off plan) t d
  fire_first = grind numbers

pub only_shown : {O T : Type 0} {m : Meaning O} (law : Law m) (plan : ℤ → Type 0) {t : ℤ} (told : T → Zoned O) (found : Option T) → IsInRange t
    → ((d : T) → IsInRange (told d).utc.s) → NoneFiresAfter law.off plan t
    → MatchOption found (NoneAfter (IsShownFire law.off plan) t) (λ d. IsZonedNextOf law (IsShownFire law.off plan) t (told d))
    → MatchOption found (NoneAfter (IsEither law.off plan) t) (λ d. IsZonedNextOf law (IsEither law.off plan) t (told d))
only_shown law plan told None low range none h = grind numbers
only_shown law plan told (Some d) low range none h = grind numbers

-- the local times of a plan, in a stretch of one offset and beyond
module _ {plan : ℤ → Type 0} where
  pub planned_next : {b n l : ℤ} → l ≡ b +ℤ pos 1 → IsWide l → IsNextAfter plan b n → (n ≤ℤ l) ↔ plan l
  planned_next = grind numbers

  pub all_quiet : {t x : ℤ} → x ≤ℤ (t -ℤ pos 86_400) → HasNoneAfter plan x → AreAllQuiet plan t
  all_quiet = grind numbers

  pub quiet_until : {t x n : ℤ} → x ≤ℤ (t -ℤ pos 86_400) → t ≤ℤ (n -ℤ pos 86_400) → IsNextAfter plan x n → AreQuiet plan t (n -ℤ pos 86_400)
  quiet_until = grind numbers

  pub quiet_at : {T : Type 0} {t u : ℤ} (second : T → ℤ) (found : Option T) → IsInRange u → AreQuiet plan t u
      → MatchOption found (IsInRange u → ⊥) (λ d. IsInRange u × (second d ≡ u)) → MatchOption found (AreAllQuiet plan t) (λ d. AreQuiet plan t (second d))
  quiet_at = grind numbers

  pub first_in : {t until k l n : ℤ} → l ≡ t +ℤ k → IsWide n → IsNextAfter plan l n → (n -ℤ k) <ℤ until → IsFirstPlannedIn plan t until k (n -ℤ k)
  first_in = grind numbers

  pub none_in : (k : ℤ) {t until l n : ℤ} → l ≡ t +ℤ k → IsNextAfter plan l n → until ≤ℤ (n -ℤ k) → NonePlannedIn plan t until k
  none_in = grind numbers

pub shows_wide : {off : ℤ → ℤ} {v : ℤ} → StayWithinDay off → IsInRange v → IsZoneSecond v → IsWide (v +ℤ off v)
shows_wide = grind numbers

-- what clocks show in a stretch of one offset
pub in_stretch : {off : ℤ → ℤ} {plan : ℤ → Type 0} {s from until k v : ℤ} → StayWithinDay off → IsOffsetStretch off s from until k → IsInRange v
    → IsShownFire off plan v → from ≤ℤ v → v <ℤ until → IsWide (v +ℤ k) × plan (v +ℤ k)
in_stretch = grind (numbers, shows_wide)

-- the search from stretch to stretch in a zone with these offsets
module _ {off : ℤ → ℤ} {plan : ℤ → Type 0} {t from : ℤ} (within : StayWithinDay off) (past : IsPast (IsShownFire off plan) t from) where
  pub all_quiet_after : AreAllQuiet plan from → NoneAfter (IsShownFire off plan) t
  all_quiet_after quiet v inside it later = let near = within v it.in_zone in
      quiet v (v +ℤ off v) (shows_wide within inside it.in_zone) it.planned (omega numbers) (past.none v inside it later)

  pub quiet_past : {u : ℤ} → AreQuiet plan from u → IsPast (IsShownFire off plan) t u
  quiet_past quiet = record {
    from = omega numbers;
    none = λ v inside it later. let near = within v it.in_zone in
        quiet.none v (v +ℤ off v) (shows_wide within inside it.in_zone) it.planned (omega numbers) (omega numbers) (past.none v inside it later);
  }

  pub stretch_past : {start until k : ℤ} → IsOffsetStretch off (from +ℤ pos 1) start until k → NonePlannedIn plan from until k
      → IsPast (IsShownFire off plan) t (until -ℤ pos 1)
  stretch_past = grind (numbers, shows_wide)

  found_in : {start until k u : ℤ} → IsOffsetStretch off (from +ℤ pos 1) start until k → IsFirstPlannedIn plan from until k u
      → (v : ℤ) → IsInRange v → IsShownFire off plan v → t <ℤ v → u ≤ℤ v
  found_in stretch found v inside it later = let after = past.none v inside it later in grind (numbers, in_stretch within stretch inside it)

pub shown_found : {O T : Type 0} {m : Meaning O} (law : Law m) (plan : ℤ → Type 0) {t q from until k u : ℤ} (told : T → Zoned O) (found : Option T)
    → StayWithinDay law.off → IsInRange t → IsPast (IsShownFire law.off plan) t q → IsOffsetStretch law.off (q +ℤ pos 1) from until k
    → IsFirstPlannedIn plan q until k u → MatchOption found (IsInRange u → ⊥) (λ d. IsInRange u × IsAt law (of_secs u 0) (told d))
    → MatchOption found (NoneAfter (IsShownFire law.off plan) t) (λ d. IsZonedNextOf law (IsShownFire law.off plan) t (told d))
shown_found law plan told None within range past stretch first h = λ v inside it later.
    let least = found_in within past stretch first v inside it later in h (omega numbers, omega numbers)
shown_found law plan {u = u} told (Some d) within range past stretch first h =
    let is : (told d).utc.s ≡ u = grind numbers in let inside : IsZoneSecond u = (omega numbers, omega numbers) in
    let same = stretch.same u inside (omega numbers) first.before in
    let shown : IsShownFire law.off plan u = record { in_zone = inside; planned = rw same first.planned } in
    record {
      next = rw is (record {
        fires = shown;
        after = omega numbers;
        none_skipped = λ v it later. by_lt_z v u (λ less. found_in within past stretch first v (omega numbers, omega numbers) it later) (λ not. not);
      });
      at = record { utc = grind numbers; offset = h.1.offset };
    }

pub beyond_range : {fire : ℤ → Type 0} {t u : ℤ} → IsInRange t → IsPast fire t u → (IsInRange u → ⊥) → NoneAfter fire t
beyond_range = grind numbers
