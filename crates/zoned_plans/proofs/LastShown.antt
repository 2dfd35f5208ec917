-- The search backward for seconds at which clocks show a plan's local times.
use Rattle.zoned_plans.specs.Fires.{second_before}
use Rattle.zoned_plans.proofs.Words.{AreAllQuietUntil, AreQuietUntil, HasNoneUntil, IsAt, IsEither, IsFire, IsFirstShown, IsInRange, IsLastPlannedIn}
use Rattle.zoned_plans.proofs.Words.{IsLastUntil, IsOffsetStretch, IsPastUntil, IsShownFire, IsWide, IsZonedLastFire, IsZonedLastOf, IsZoneSecond, Law}
use Rattle.zoned_plans.proofs.Words.{MatchOption, Meaning, None, NoneUntil, NoneUntilPlannedIn, Option, Reading, Some, Zoned, by_lt_z, numbers, of_secs, pos, ℤ}
use Rattle.zoned_plans.proofs.Words.{◌+ℤ◌, ◌-ℤ◌, ◌<ℤ◌, ◌↔◌, ◌≡◌, ◌≤ℤ◌}
use Rattle.zoned_plans.proofs.{ShownFires.{in_stretch, shows_wide}, Words.{StayWithinDay}}

-- fires of a zone with that law, up to the second t, at which clocks show a local time of the plan
module _ {O : Type 0} {m : Meaning O} {law : Law m} {plan : ℤ → Type 0} {t : ℤ} where
  pub last_first_shown : {from : ℤ} {d : Zoned O} → IsPastUntil (IsFirstShown law.off plan) t from → IsInRange t → IsInRange d.utc.s
      → IsZonedLastFire law plan from d → plan (d.utc.s +ℤ law.off d.utc.s) → IsZonedLastOf law (IsFirstShown law.off plan) t d
  last_first_shown {d = d} past high range h shown = record {
    last = record {
      fires = (h.last.fires, record { in_zone = h.last.fires.first.reached.in_zone; planned = shown });
      not_after = omega numbers;
      none_skipped = λ v it come. by_lt_z d.utc.s v (λ more. h.last.none_skipped v it.0 (past.none v (omega numbers, omega numbers) it come)) (λ not. not);
    };
    at = h.at;
  }

  pub not_shown_last : {from : ℤ} {d : Zoned O} → IsPastUntil (IsFirstShown law.off plan) t from → IsZonedLastFire law plan from d
      → (plan (d.utc.s +ℤ law.off d.utc.s) → ⊥) → IsPastUntil (IsFirstShown law.off plan) t (d.utc.s -ℤ pos 1)
  not_shown_last {d = d} past h not = record {
    until = omega numbers;
    none = λ v inside it come. let most = h.last.none_skipped v it.0 (past.none v inside it come) in by_lt_z v d.utc.s (λ less. omega numbers)
        (λ more. let same : v ≡ d.utc.s = omega numbers in absurd (not (rw same at it.1.planned)));
  }

  -- both kinds of fires
  pub shown_last : {d : Zoned O} → IsZonedLastOf law (IsShownFire law.off plan) t d → ((v : ℤ) → IsFire law.off plan v → v ≤ℤ t → v ≤ℤ d.utc.s)
      → IsZonedLastOf law (IsEither law.off plan) t d
  shown_last = grind numbers

  pub fire_last : {d : Zoned O} → IsZonedLastFire law plan t d → ((v : ℤ) → IsShownFire law.off plan v → v ≤ℤ t → v ≤ℤ d.utc.s)
      → IsZonedLastOf law (IsEither law.off plan) t d
  fire_last = grind numbers

pub only_shown_last : {O T : Type 0} {m : Meaning O} (law : Law m) (plan : ℤ → Type 0) {t : ℤ} (told : T → Zoned O) (found : Option T) → IsInRange t
    → ((d : T) → IsInRange (told d).utc.s) → NoneUntil (IsFire law.off plan) t
    → MatchOption found (NoneUntil (IsShownFire law.off plan) t) (λ d. IsZonedLastOf law (IsShownFire law.off plan) t (told d))
    → MatchOption found (NoneUntil (IsEither law.off plan) t) (λ d. IsZonedLastOf law (IsEither law.off plan) t (told d))
only_shown_last law plan told None high range none h = grind numbers
only_shown_last law plan told (Some d) high range none h = grind numbers

-- seconds of one kind
module _ {fire : ℤ → Type 0} where
  pub below_range : {t u : ℤ} → IsInRange t → IsPastUntil fire t u → (IsInRange u → ⊥) → NoneUntil fire t
  below_range = grind numbers

  pub none_later : {t u : ℤ} → IsInRange t → IsInRange u → NoneUntil fire t → (v : ℤ) → fire v → v ≤ℤ t → v ≤ℤ u
  none_later = grind numbers

pub none_until_before : (fire : ℤ → Type 0) {s r : ℤ} → IsInRange r → s ≤ℤ r → (IsInRange s → ⊥) → NoneUntil fire s
none_until_before = grind numbers

pub second_not_later : (r : Reading) → second_before r ≤ℤ r.s
second_not_later = grind numbers

-- the local times of a plan, in a stretch of one offset and beyond
module _ {plan : ℤ → Type 0} where
  pub planned_last : {n l : ℤ} → IsWide l → IsLastUntil plan l n → (l ≤ℤ n) ↔ plan l
  planned_last = grind numbers

  pub all_quiet_until : {t x : ℤ} → (t +ℤ pos 86_400) ≤ℤ x → HasNoneUntil plan x → AreAllQuietUntil plan t
  all_quiet_until = grind numbers

  pub quiet_from : {t x n : ℤ} → (t +ℤ pos 86_400) ≤ℤ x → (n +ℤ pos 86_400) ≤ℤ t → IsLastUntil plan x n → AreQuietUntil plan t (n +ℤ pos 86_400)
  quiet_from = grind numbers

  pub quiet_then : {T : Type 0} {t u : ℤ} (second : T → ℤ) (found : Option T) → IsInRange u → AreQuietUntil plan t u
      → MatchOption found (IsInRange u → ⊥) (λ d. IsInRange u × (second d ≡ u))
      → MatchOption found (AreAllQuietUntil plan t) (λ d. AreQuietUntil plan t (second d))
  quiet_then = grind numbers

  pub last_in : {t from k l n : ℤ} → l ≡ t +ℤ k → IsWide n → IsLastUntil plan l n → from ≤ℤ (n -ℤ k) → IsLastPlannedIn plan t from k (n -ℤ k)
  last_in = grind numbers

  pub none_last_in : (k : ℤ) {t from l n : ℤ} → l ≡ t +ℤ k → IsLastUntil plan l n → (n -ℤ k) <ℤ from → NoneUntilPlannedIn plan t from k
  none_last_in = grind numbers

-- the search from stretch to stretch in a zone with these offsets
module _ {off : ℤ → ℤ} {plan : ℤ → Type 0} {t from : ℤ} (within : StayWithinDay off) (past : IsPastUntil (IsShownFire off plan) t from) where
  pub none_left_until : AreAllQuietUntil plan from → NoneUntil (IsShownFire off plan) t
  none_left_until quiet v inside it come = let near = within v it.in_zone in
      quiet v (v +ℤ off v) (shows_wide within inside it.in_zone) it.planned (omega numbers) (past.none v inside it come)

  pub quiet_past_until : {u : ℤ} → AreQuietUntil plan from u → IsPastUntil (IsShownFire off plan) t u
  quiet_past_until quiet = record {
    until = omega numbers;
    none = λ v inside it come. let near = within v it.in_zone in
        quiet.none v (v +ℤ off v) (shows_wide within inside it.in_zone) it.planned (omega numbers) (omega numbers) (past.none v inside it come);
  }

  pub stretch_past_until : {start until k : ℤ} → IsOffsetStretch off from start until k → NoneUntilPlannedIn plan from start k
      → IsPastUntil (IsShownFire off plan) t (start -ℤ pos 1)
  stretch_past_until stretch none = record {
    until = omega numbers;
    none = λ v inside it come. let until = past.none v inside it come in by_lt_z v _ (λ early. omega numbers)
        (λ late. let shown = in_stretch within stretch inside it late (omega numbers) in absurd (none v shown.0 shown.1 until late));
  }

  found_last_in : {start until k u : ℤ} → IsOffsetStretch off from start until k → IsLastPlannedIn plan from start k u
      → (v : ℤ) → IsInRange v → IsShownFire off plan v → v ≤ℤ t → v ≤ℤ u
  found_last_in stretch found v inside it come = by_lt_z _ v
      (λ more. let until = past.none v inside it come in let shown = in_stretch within stretch inside it (omega numbers) (omega numbers) in
      found.greatest v shown.0 shown.1 until) (λ not. not)

pub shown_found_last : {O T : Type 0} {m : Meaning O} (law : Law m) (plan : ℤ → Type 0) {t q from until k u : ℤ} (told : T → Zoned O) (found : Option T)
    → StayWithinDay law.off → IsInRange t → IsPastUntil (IsShownFire law.off plan) t q → IsOffsetStretch law.off q from until k
    → IsLastPlannedIn plan q from k u → MatchOption found (IsInRange u → ⊥) (λ d. IsInRange u × IsAt law (of_secs u 0) (told d))
    → MatchOption found (NoneUntil (IsShownFire law.off plan) t) (λ d. IsZonedLastOf law (IsShownFire law.off plan) t (told d))
shown_found_last law plan told None within range past stretch last h = λ v inside it come.
    let most = found_last_in within past stretch last v inside it come in h (omega numbers, omega numbers)
shown_found_last law plan {u = u} told (Some d) within range past stretch last h =
    let is : (told d).utc.s ≡ u = grind numbers in let inside : IsZoneSecond u = (omega numbers, omega numbers) in
    let same = stretch.same u inside last.not_before (omega numbers) in
    let shown : IsShownFire law.off plan u = record { in_zone = inside; planned = rw same last.planned } in
    record {
      last = rw is (record {
        fires = shown;
        not_after = omega numbers;
        none_skipped = λ v it come. by_lt_z u v (λ more. found_last_in within past stretch last v (omega numbers, omega numbers) it come) (λ not. not);
      });
      at = record { utc = grind numbers; offset = h.1.offset };
    }
