-- When plans fire: the fires up to a second are those of the plan's local times up to the last one that clocks have shown.
use Rattle.std.proofs.Common.{Contains, length, slice_index_or}
use Rattle.zoned_plans.specs.Fires.{usual_policy}
use Rattle.zoned_plans.proofs.Words.{AreAllOf, HasNoneAfter, HasNoneUntil, IsFire, IsFireBy, IsFirstSecondOutOfRange, IsFirstToReach, IsInRange, IsLastFire}
use Rattle.zoned_plans.proofs.Words.{IsLastUntil, IsNextAfter, IsNextFire, IsReachedAt, IsWide, IsZonedFirst, IsZonedLastFire, IsZonedNextFire, IsZonedNextOf}
use Rattle.zoned_plans.proofs.Words.{IsZoneSecond, Law, List, MatchOption, Meaning, None, NoneAfter, NoneBetween, NoneFiresAfter, NoneFiresUntil, Option}
use Rattle.zoned_plans.proofs.Words.{Reading, RiseFrom, Some, Zoned, arith, by_lt_z, neg_ℤ, numbers, pos, suc, zero, [], ℕ, ℤ, ◌+ℤ◌, ◌-ℤ◌, ◌<ℤ◌, ◌<◌, ◌∷◌, ◌≡◌}
use Rattle.zoned_plans.proofs.Words.{◌≤ℤ◌}
use Rattle.zoned_plans.proofs.Words.{StayWithinDay, adjoint, reached_near, still_to_come}

-- a later local time is not reached earlier
pub first_rises : {off : ℤ → ℤ} {l m u v : ℤ} → l ≤ℤ m → IsFirstToReach off l u → IsFirstToReach off m v → u ≤ℤ v
first_rises = grind numbers

-- the local time of a fire in range can be shown by a `NaiveDateTime`
pub fire_is_wide : {off : ℤ → ℤ} {l v : ℤ} → StayWithinDay off → IsInRange v → IsFirstToReach off l v → IsWide l
fire_is_wide {off = off} {l = l} {v = v} within range h =
    let near = within v h.reached.in_zone in let inside : IsZoneSecond (v -ℤ pos 1) = (omega numbers, omega numbers) in
    let near_before = within (v -ℤ pos 1) inside in
    let before : (v -ℤ pos 1 +ℤ off (v -ℤ pos 1)) <ℤ l = by_lt_z (v -ℤ pos 1 +ℤ off (v -ℤ pos 1)) l (λ less. less)
    (λ not. let least = h.first (v -ℤ pos 1) (record { in_zone = inside; reached = not }) in omega numbers) in
    (omega numbers, omega numbers)

-- the fires around the second t, up to which `local` is the last local time that clocks have shown
module _ {off : ℤ → ℤ} {plan : ℤ → Type 0} {t local : ℤ} (within : StayWithinDay off) (range : IsInRange t) (reached : IsReachedAt off t local) where
  pub next_fire : {l u : ℤ} → IsNextAfter plan local l → IsWide l → IsFirstToReach off l u → IsNextFire off plan t u
  next_fire {l = l} next wide first = record {
    fires = record { local = l; planned = next.planned; first = first };
    after = still_to_come first reached next.after;
    none_skipped = λ v fire later.
        let above : local <ℤ fire.local = by_lt_z local fire.local (λ less. less)
        (λ not. let come = (adjoint fire.first reached).1 not in omega numbers) in
        let near = reached_near within range reached in
        let least : l ≤ℤ fire.local = by_lt_z (pos 8_210_266_963_199) fire.local (λ far. omega numbers)
        (λ not. next.least fire.local (omega numbers, omega numbers) fire.planned above) in
        first_rises least first fire.first;
  }

  pub none_fires_after : HasNoneAfter plan local → NoneFiresAfter off plan t
  none_fires_after = grind (numbers, fire_is_wide, adjoint)

  pub last_fire : {l u : ℤ} → IsLastUntil plan local l → IsWide l → IsFirstToReach off l u → IsLastFire off plan t u
  last_fire {l = l} last wide first = record {
    fires = record { local = l; planned = last.planned; first = first };
    not_after = (adjoint first reached).1 last.not_after;
    none_skipped = λ v fire come.
        let below = (adjoint fire.first reached).0 come in let near = reached_near within range reached in
        let most : fire.local ≤ℤ l = by_lt_z fire.local (neg_ℤ (pos 8_334_601_315_200)) (λ far. omega numbers)
        (λ not. last.greatest fire.local (omega numbers, omega numbers) fire.planned below) in
        first_rises most fire.first first;
  }

  pub none_fires_until : HasNoneUntil plan local → NoneFiresUntil off plan t
  none_fires_until = grind (numbers, fire_is_wide, adjoint)

module _ {off : ℤ → ℤ} {plan : ℤ → Type 0} {t u : ℤ} (range : IsInRange t) where
  fires_beyond : IsNextFire off plan t u → (IsInRange u → ⊥) → NoneFiresAfter off plan t
  fires_beyond = grind numbers

  fires_before : IsLastFire off plan t u → (IsInRange u → ⊥) → NoneFiresUntil off plan t
  fires_before = grind numbers

-- from seconds to instants of a zone with that law
module _ {O T : Type 0} {m : Meaning O} (law : Law m) (plan : ℤ → Type 0) {t local l : ℤ} (told : T → Zoned O) where
  pub next_found : (found : Option T) → StayWithinDay law.off → IsInRange t → IsReachedAt law.off t local → IsNextAfter plan local l → IsWide l
      → MatchOption found (IsFirstSecondOutOfRange law.off l) (λ d. IsZonedFirst law l (told d))
      → MatchOption found (NoneFiresAfter law.off plan t) (λ d. IsZonedNextFire law plan t (told d))
  next_found None within range reached next wide h = fires_beyond range (next_fire within range reached next wide h.1) h.2
  next_found (Some d) within range reached next wide h = record { next = next_fire within range reached next wide h.first; at = h.at }

  pub last_found : (found : Option T) → StayWithinDay law.off → IsInRange t → IsReachedAt law.off t local → IsLastUntil plan local l → IsWide l
      → MatchOption found (IsFirstSecondOutOfRange law.off l) (λ d. IsZonedFirst law l (told d))
      → MatchOption found (NoneFiresUntil law.off plan t) (λ d. IsZonedLastFire law plan t (told d))
  last_found None within range reached last wide h = fires_before range (last_fire within range reached last wide h.1) h.2
  last_found (Some d) within range reached last wide h = record { last = last_fire within range reached last wide h.first; at = h.at }

-- all seconds of one kind up to a second
module _ (fire : ℤ → Type 0) (until : ℤ) where
  pub each_fires : (t : ℤ) (us : List ℤ) → AreAllOf fire t until us
      → (k : ℕ) (d : ℤ) → k < length us → fire (slice_index_or us k d) × (t <ℤ slice_index_or us k d) × (slice_index_or us k d ≤ℤ until)
  each_fires t [] h k d below = absurd (omega arith)
  each_fires t (u ∷ us) h zero d below = (h.0.fires, h.0.after, h.1)
  each_fires t (u ∷ us) h (suc k) d below = let rest = each_fires u us h.2 k d (omega arith) in (rest.0, omega numbers, rest.2)

  pub none_skipped : (t : ℤ) (us : List ℤ) → AreAllOf fire t until us → (v : ℤ) → fire v → t <ℤ v → v ≤ℤ until → Contains us v
  none_skipped t [] h v it after not_after = absurd (h v it after not_after)
  none_skipped t (u ∷ us) h v it after not_after =
      let least = h.0.none_skipped v it after in
      by_lt_z u v (λ later. let rest = none_skipped u us h.2 v it later not_after in (suc rest.0, omega arith, rest.2)) (λ not. (0, omega arith, omega numbers))

  pub none_doubled : (t : ℤ) (us : List ℤ) → AreAllOf fire t until us → RiseFrom t us
  none_doubled t [] h = tt
  none_doubled t (u ∷ us) h = (h.0.after, none_doubled u us h.2)

pub none_between : (fire : ℤ → Type 0) {t until : ℤ} → IsInRange t → IsInRange until → NoneAfter fire t → NoneBetween fire t until
none_between = grind numbers

-- two names of the same seconds
module _ (a b : ℤ → Type 0) (there : (v : ℤ) → a v → b v) (back : (v : ℤ) → b v → a v) (until : ℤ) where
  pub same_all : (t : ℤ) (us : List ℤ) → AreAllOf a t until us → AreAllOf b t until us
  same_all t [] h = λ v it after not_after. h v (back v it) after not_after
  same_all t (u ∷ us) h = (grind arith, h.1, same_all u us h.2)

-- the usual policy
module _ (off : ℤ → ℤ) (plan : ℤ → Type 0) where
  pub fires_usual : (v : ℤ) → IsFireBy usual_policy off plan v → IsFire off plan v
  fires_usual = grind arith

  pub usual_fires : (v : ℤ) → IsFire off plan v → IsFireBy usual_policy off plan v
  usual_fires = grind arith

pub usual_between : {O T : Type 0} {m : Meaning O} (law : Law m) (plan : ℤ → Type 0) (t until : ℤ) (told : T → Zoned O) (found : Option T)
    → MatchOption found (NoneBetween (IsFireBy usual_policy law.off plan) t until)
    (λ d. IsZonedNextOf law (IsFireBy usual_policy law.off plan) t (told d) × ((told d).utc.s ≤ℤ until))
    → MatchOption found (NoneBetween (IsFire law.off plan) t until) (λ d. IsZonedNextOf law (IsFire law.off plan) t (told d) × ((told d).utc.s ≤ℤ until))
usual_between = grind arith
