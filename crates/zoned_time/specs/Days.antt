-- Days of a zone: the first and the last second at which its clocks show a date, and the first instant at or after a local time.
use Rattle.std.specs.Prelude.{ℤ, pos, ◌+ℤ◌, ◌*ℤ◌, ◌≤ℤ◌, ◌<ℤ◌}
use Rattle.naive_base.specs.{Range.{IsInRange}, Reading.{Reading, reading_at, ahead, IsEarlier}, Stamp.{of_secs}}
use Rattle.zoned_time.specs.{Zone.{Meaning, Law, IsZoneSecond, IsOffsetAt}, Zoned.{Zoned, IsAt}}

-- at the second u, one at which zones have offsets, the clocks of a zone with these offsets show that day
pub record IsOnDay (off : ℤ → ℤ) (day u : ℤ) : Type 0 where
  pub in_zone : IsZoneSecond u
  pub since : (pos 86_400 *ℤ day) ≤ℤ (u +ℤ off u)
  pub before : (u +ℤ off u) <ℤ (pos 86_400 *ℤ day +ℤ pos 86_400)

-- the least second that shows the day, and the greatest
pub record AreEndsOfDay (off : ℤ → ℤ) (day first last : ℤ) : Type 0 where
  pub shown_first : IsOnDay off day first
  pub shown_last : IsOnDay off day last
  pub not_before : (u : ℤ) → IsOnDay off day u → first ≤ℤ u
  pub not_after : (u : ℤ) → IsOnDay off day u → u ≤ℤ last

-- no second shows the day
abbrev pub IsNeverOnDay : (ℤ → ℤ) → ℤ → Type 0
IsNeverOnDay off day = (u : ℤ) → IsOnDay off day u → ⊥

-- the first and the last second of the day, as instants of the zone
pub record AreInstantsOfDay {O : Type 0} {m : Meaning O} (law : Law m) (day : ℤ) (d e : Zoned O) : Type 0 where
  pub ends : AreEndsOfDay law.off day d.utc.s e.utc.s
  pub at_first : IsAt law (of_secs d.utc.s 0) d
  pub at_last : IsAt law (of_secs e.utc.s 0) e

-- no second shows the day, or one that is out of range does
abbrev pub IsNoDay : (ℤ → ℤ) → ℤ → Type 0
IsNoDay off day = (u : ℤ) → IsOnDay off day u → (v : ℤ) × IsOnDay off day v × (IsInRange v → ⊥)

-- at the second u, one at which zones have offsets, the clocks show the second l or a later one
pub record HasReached (off : ℤ → ℤ) (l u : ℤ) : Type 0 where
  pub in_zone : IsZoneSecond u
  pub reached : l ≤ℤ (u +ℤ off u)

-- u is the first second, at which zones have offsets, at which the clocks show the second l or a later one
pub record IsFirstToReach (off : ℤ → ℤ) (l u : ℤ) : Type 0 where
  pub reached : HasReached off l u
  pub first : (v : ℤ) → HasReached off l v → u ≤ℤ v

-- the first second at which the clocks show the second l or a later one is out of range
abbrev pub IsFirstSecondOutOfRange : (ℤ → ℤ) → ℤ → Type 0
IsFirstSecondOutOfRange off l = (u : ℤ) × IsFirstToReach off l u × (IsInRange u → ⊥)

-- the first second at which the clocks of a zone show the second l or a later one, as an instant of the zone
pub record IsZonedFirst {O : Type 0} {m : Meaning O} (law : Law m) (l : ℤ) (d : Zoned O) : Type 0 where
  pub first : IsFirstToReach law.off l d.utc.s
  pub at : IsAt law (of_secs d.utc.s 0) d

-- at the instant r, at a second at which zones have offsets, the clocks show the local time l or a later one
pub record IsInstantFrom (off : ℤ → ℤ) (l r : Reading) : Type 0 where
  pub in_zone : IsZoneSecond r.s
  pub not_before : ¬ (IsEarlier (ahead r (off r.s)) l)

-- r is the first such instant
pub record IsFirstInstantFrom (off : ℤ → ℤ) (l r : Reading) : Type 0 where
  pub shown : IsInstantFrom off l r
  pub first : (q : Reading) → IsInstantFrom off l q → ¬ (IsEarlier q r)

-- the first instant at which the clocks show the local time l or a later one is out of range
abbrev pub IsFirstOutOfRange : (ℤ → ℤ) → Reading → Type 0
IsFirstOutOfRange off l = (r : Reading) × IsFirstInstantFrom off l r × (IsInRange r.s → ⊥)

-- the first instant of a zone at or after l, with the offset that the zone gives then
pub record IsZonedAtOrAfter {O : Type 0} {m : Meaning O} (law : Law m) (l : Reading) (d : Zoned O) : Type 0 where
  pub first : IsFirstInstantFrom law.off l d.utc
  pub offset : IsOffsetAt law d.utc.s d.offset

-- the midnight that begins a day
abbrev pub midnight : ℤ → Reading
midnight day = reading_at day 0 0

-- the instant r lies in that day: from the first instant at or after its midnight on, and before that at or after the next one
pub record IsInDay (off : ℤ → ℤ) (day : ℤ) (r : Reading) : Type 0 where
  pub start : Reading
  pub next : Reading
  pub starts : IsFirstInstantFrom off (midnight day) start
  pub ends : IsFirstInstantFrom off (midnight (day +ℤ pos 1)) next
  pub not_before : ¬ (IsEarlier r start)
  pub before : IsEarlier r next
