-- The starts of days divide time: each instant lies in one day.
use Rattle.zoned_time.proofs.Words.{AreEndsOfDay, HasReached, IsEarlier, IsFirstInstantFrom, IsFirstToReach, IsInDay, IsInRange, IsInstantFrom, IsNeverOnDay}
use Rattle.zoned_time.proofs.Words.{IsOnDay, IsWithinDay, IsZoneSecond, Reading, arith, by_lt_z, floor_div, floors, midnight, neg_ℤ, numbers, of_secs, pos}
use Rattle.zoned_time.proofs.Words.{refl, suc, unsigned_abs, zero, ℕ, ℤ, ◌*ℤ◌, ◌+ℤ◌, ◌-ℤ◌, ◌<ℤ◌, ◌≡◌, ◌≤ℤ◌}
use Rattle.zoned_time.proofs.{Answered.{first_from}, Days.{first_whole, to_reached}}

-- ---- the order of instants
pub through : (x y z : Reading) → ¬ (IsEarlier x y) → ¬ (IsEarlier y z) → ¬ (IsEarlier x z)
through = grind arith

-- ---- days
pub one_first : {off : ℤ → ℤ} {l a b : Reading} → IsFirstInstantFrom off l a → IsFirstInstantFrom off l b → a ≡ b
one_first = grind arith

-- days of a zone with these offsets
module _ (off : ℤ → ℤ) where
  -- a later day starts no earlier
  pub days_rise : (c d : ℤ) (a b : Reading) → c ≤ℤ d → IsFirstInstantFrom off (midnight c) a → IsFirstInstantFrom off (midnight d) b → ¬ (IsEarlier b a)
  days_rise = grind numbers

  -- clocks that show the second of a midnight or a later one
  at_midnight : (day : ℤ) (r : Reading) → IsZoneSecond r.s → (day *ℤ pos 86_400) ≤ℤ (r.s +ℤ off r.s) → IsInstantFrom off (midnight day) r
  at_midnight = grind arith

  -- no instant lies in two days
  not_in_both : (c d : ℤ) (r : Reading) → c <ℤ d → IsInDay off c r → IsInDay off d r → ⊥
  not_in_both c d r less h k =
      through r k.start h.next k.not_before (days_rise (c +ℤ pos 1) d h.next k.start (omega numbers) h.ends k.starts) h.before

  pub one_day : (r : Reading) (c d : ℤ) → IsInDay off c r → IsInDay off d r → c ≡ d
  one_day r c d h k = by_lt_z c d (λ less. absurd (not_in_both c d r less h k))
      (λ more. by_lt_z d c (λ less. absurd (not_in_both d c r less k h)) (λ most. omega numbers))

  -- a day that is never shown starts with the next one
  pub skipped : (day : ℤ) (a b : Reading) → IsNeverOnDay off day → IsFirstInstantFrom off (midnight day) a
      → IsFirstInstantFrom off (midnight (day +ℤ pos 1)) b → a ≡ b
  skipped day a b never h k =
      let reached = (to_reached h.shown).reached in let past : ((day +ℤ pos 1) *ℤ pos 86_400) ≤ℤ (a.s +ℤ off a.s) = grind (numbers, never a.s) in
      let not_earlier = days_rise day (day +ℤ pos 1) a b (omega numbers) h k in grind numbers

  -- in a day no later date is shown
  pub no_later_date : (day : ℤ) (r : Reading) → IsZoneSecond r.s → IsInDay off day r → floor_div (r.s +ℤ off r.s) 86_400 ≤ℤ day
  no_later_date = grind numbers

  -- if the date is shown when its day starts, that is the first second that shows it
  pub starts_with_first : (day first last : ℤ) (r : Reading) → IsFirstInstantFrom off (midnight day) r → IsOnDay off day r.s
      → AreEndsOfDay off day first last → r.s ≡ first
  starts_with_first day first last r h on ends = let least = ends.not_before r.s on in
      grind (numbers, h.first (of_secs first 0) (at_midnight day (of_secs first 0) ends.shown_first.in_zone (omega numbers)))

-- ---- each instant lies in a day
abbrev pub StayWithinDay : (ℤ → ℤ) → Type 0
StayWithinDay off = (u : ℤ) → IsZoneSecond u → IsWithinDay (off u)

-- clocks that show l or more at the second v did so first at some second
pub first_until : {off : ℤ → ℤ} {l v : ℤ} → HasReached off l v → (u : ℤ) × IsFirstToReach off l u × (u ≤ℤ v)
first_until {off = off} {l = l} {v = v} h =
    let start : ℤ = neg_ℤ (pos 8_334_601_401_600) in
    let found = first_from (λ u. l ≤ℤ (u +ℤ off u)) (λ u. grind numbers) (unsigned_abs (v -ℤ start)) start v (omega numbers) h.reached in grind numbers

pub in_day : {off : ℤ → ℤ} {r : Reading} {day start next : ℤ} → IsFirstToReach off (midnight day).s start → IsFirstToReach off (midnight (day +ℤ pos 1)).s next
    → start ≤ℤ r.s → r.s <ℤ next → IsInDay off day r
in_day {day = day} h k low high =
    grind (numbers, first_whole {l = midnight day} refl h, first_whole {l = midnight (day +ℤ pos 1)} refl k)

-- offsets of less than a day
module _ {off : ℤ → ℤ} (within : StayWithinDay off) where
  -- clocks reach each second of a day that is in range or a buffer day, and the midnight after these days
  pub reaches : (l : ℤ) → neg_ℤ (pos 8_334_601_315_200) ≤ℤ l → l ≤ℤ pos 8_210_266_963_200 → (u : ℤ) × IsFirstToReach off l u
  reaches l low high =
      let inside : IsZoneSecond (l +ℤ pos 86_399) = (omega numbers, omega numbers) in let near = within (l +ℤ pos 86_399) inside in
      let found = first_until {l = l} (record { in_zone = inside; reached = omega numbers }) in (found.0, found.1)

  -- from a day that has started on, at most n days ahead
  climb : (r : Reading) (n : ℕ) (day start : ℤ) → IsInRange r.s → neg_ℤ (pos 8_334_601_315_200) ≤ℤ (day *ℤ pos 86_400)
      → (r.s +ℤ pos 86_399) <ℤ ((day *ℤ pos 86_400) +ℤ (pos n *ℤ pos 86_400))
      → IsFirstToReach off (midnight day).s start → start ≤ℤ r.s → (d : ℤ) × IsInDay off d r
  climb r zero day start range low far h started = grind numbers
  climb r (suc n) day start range low far h started =
      let near = within start h.reached.in_zone in let next = reaches (midnight (day +ℤ pos 1)).s (omega numbers) (omega numbers) in
      by_lt_z r.s next.0 (λ less. (day, in_day h next.1 started less))
      (λ later. climb r n (day +ℤ pos 1) next.0 range (omega numbers) (omega numbers) next.1 later)

  pub some_day : (r : Reading) → IsInRange r.s → (d : ℤ) × IsInDay off d r
  some_day r range =
      let inside : IsZoneSecond r.s = (omega numbers, omega numbers) in let near = within r.s inside in let day = floor_div (r.s +ℤ off r.s) 86_400 in
      let start = reaches (midnight day).s (omega (numbers, floors)) (omega (numbers, floors)) in
      climb r 3 day start.0 range (omega (numbers, floors)) (omega (numbers, floors)) start.1
      (start.1.first r.s (record { in_zone = inside; reached = omega (numbers, floors) }))
