-- The last local time that clocks have shown: the adjoint of the first second at or after a local time.
use Rattle.std.specs.Int.Signed.{le_z}
use Rattle.zoned_time.proofs.Words.{HasPassed, IsFirstToReach, IsInDay, IsInRange, IsOffsetStretch, IsReachedAt, IsTrue, IsZoneSecond, Reading, arith, by_lt_z}
use Rattle.zoned_time.proofs.Words.{floor_div, floors, midnight, numbers, pos, ℤ, ◌+ℤ◌, ◌-ℤ◌, ◌<ℤ◌, ◌↔◌, ◌≡◌, ◌≤ℤ◌}
use Rattle.zoned_time.proofs.DayStarts.{StayWithinDay, in_day, reaches}

-- clocks have passed l if and only if their first second there has come
pub passed_first : {off : ℤ → ℤ} {l u t : ℤ} → IsFirstToReach off l u → (u ≤ℤ t) ↔ HasPassed off l t
passed_first = grind arith

-- u is the first second at which clocks reach l, and m the last local time that they have shown up to the second t
module _ {off : ℤ → ℤ} {l u t m : ℤ} (first : IsFirstToReach off l u) (h : IsReachedAt off t m) where
  pub adjoint : (u ≤ℤ t) ↔ (l ≤ℤ m)
  adjoint = grind numbers

  -- a local time after it is still to come
  pub still_to_come : m <ℤ l → t <ℤ u
  still_to_come = grind numbers

-- what a test of the two seconds says
pub by_test : (u t : ℤ) (p : Type 0) → (u ≤ℤ t) ↔ p → IsTrue (le_z u t) ↔ p
by_test = grind arith

-- one is last
pub one_reached : (off : ℤ → ℤ) (t l m : ℤ) → IsReachedAt off t l → IsReachedAt off t m → l ≡ m
one_reached = grind numbers

-- clocks have passed l, and not the second after it
pub last_passed : {off : ℤ → ℤ} {t l : ℤ} → HasPassed off l t → (HasPassed off (l +ℤ pos 1) t → ⊥) → IsReachedAt off t l
last_passed {off = off} {t = t} {l = l} h not =
    let most : (u : ℤ) → IsZoneSecond u → u ≤ℤ t → (u +ℤ off u) ≤ℤ l = λ u inside until. by_lt_z l (u +ℤ off u)
    (λ less. absurd (not (record { at = u; reached = record { in_zone = inside; reached = omega numbers }; not_after = until }))) (λ more. more) in
    let least = most h.at h.reached.in_zone h.not_after in
    record { at = h.at; in_zone = h.reached.in_zone; not_after = h.not_after; shown = omega numbers; last = most }

-- what clocks show they have passed, and never a local time a day or more ahead
pub passed_now : {off : ℤ → ℤ} {t l : ℤ} → IsInRange t → (t +ℤ off t) ≡ l → HasPassed off l t
passed_now {t = t} range shown =
    record { at = t; reached = record { in_zone = (omega numbers, omega numbers); reached = omega numbers }; not_after = omega numbers }

pub none_a_day_ahead : {off : ℤ → ℤ} (t : ℤ) → StayWithinDay off → HasPassed off (t +ℤ pos 86_400) t → ⊥
none_a_day_ahead = grind arith

-- offsets of less than a day, at an instant in range
module _ {off : ℤ → ℤ} (within : StayWithinDay off) where
  -- how far it is from the second
  pub reached_near : {t l : ℤ} → IsInRange t → IsReachedAt off t l → ((t -ℤ pos 86_400) <ℤ l) × (l <ℤ (t +ℤ pos 86_400))
  reached_near {t = t} range h =
      let inside : IsZoneSecond t = (omega numbers, omega numbers) in let now = within t inside in let then = within h.at h.in_zone in
      let most = h.last t inside (omega numbers) in (omega numbers, omega numbers)

  -- two days after the begin of a stretch of one offset clocks have caught up
  pub settled : {t from until k : ℤ} → IsInRange t → IsOffsetStretch off t from until k → from ≤ℤ (t -ℤ pos 172_800) → IsReachedAt off t (t +ℤ k)
  settled {t = t} {from = from} range stretch long =
      let inside : IsZoneSecond t = (omega numbers, omega numbers) in
      let now = stretch.same t inside stretch.not_before stretch.before in let near = within t inside in record {
        at = t;
        in_zone = inside;
        not_after = omega numbers;
        shown = omega numbers;
        last = λ u in_zone until. let there = within u in_zone in by_lt_z u from (λ less. omega numbers)
            (λ not. let same = stretch.same u in_zone not (omega numbers) in omega numbers);
      }

  -- an instant lies in the day of the last local time that clocks have shown
  pub day_reached : {r : Reading} {l : ℤ} → IsInRange r.s → IsReachedAt off r.s l → IsInDay off (floor_div l 86_400) r
  day_reached {l = l} range h =
      let near = reached_near range h in let day = floor_div l 86_400 in
      let start = reaches within (midnight day).s (omega (numbers, floors)) (omega (numbers, floors)) in
      let next = reaches within (midnight (day +ℤ pos 1)).s (omega (numbers, floors)) (omega (numbers, floors)) in
      in_day start.1 next.1 ((adjoint start.1 h).1 (omega (numbers, floors))) (still_to_come next.1 h (omega (numbers, floors)))
