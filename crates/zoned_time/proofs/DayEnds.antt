-- Days from their starts: the last instant, and first days before the range.
use Rattle.zoned_time.proofs.Words.{AreStartsOfDays, HasNoEnd, IsAt, IsDateOn, IsDaysLater, IsEarlier, IsEndOfDay, IsFirstInstantFrom, IsFirstOutOfRange}
use Rattle.zoned_time.proofs.Words.{IsFirstToReach, IsGapEnd, IsInDay, IsInRange, IsNeverShown, IsShownBetween, IsShownOnce, IsWideDay, IsZonedEnd}
use Rattle.zoned_time.proofs.Words.{IsZoneSecond, Law, MatchOption, Meaning, NaiveDate, None, NonePassed, Option, Reading, ShowsByOffset, Some, Zoned, arith}
use Rattle.zoned_time.proofs.Words.{behind, by_lt_z, day_of, first_day, inl, last_day, midnight, neg_ℤ, numbers, of_secs, pos, refl, rules, ℕ, ℤ, ◌+ℤ◌, ◌-ℤ◌}
use Rattle.zoned_time.proofs.Words.{◌<ℤ◌, ◌<◌, ◌≡◌, ◌≤ℤ◌}
use Rattle.zoned_time.proofs.{DayStarts.{StayWithinDay, first_until, in_day, one_first}}
use Rattle.zoned_time.proofs.Days.{first_instant, first_whole, out_of_range, to_reached}

none_after : (q : Reading) (next : ℤ) → q.s <ℤ next → q.f < 1_000_000_000 → ¬ (IsEarlier (of_secs (next -ℤ pos 1) 999_999_999) q)
none_after = grind arith

-- a day that starts at one second, and the next one at another
module _ {off : ℤ → ℤ} {day start next : ℤ} (h : AreStartsOfDays off day start next) where
  starts_are : {r : Reading} → IsInDay off day r → (start ≤ℤ r.s) × (r.s <ℤ next)
  starts_are k =
      let at_start = one_first k.starts (first_whole {l = midnight day} refl h.starts) in
      grind (numbers, one_first k.ends (first_whole {l = midnight (day +ℤ pos 1)} refl h.ends))

  pub end_of_day : start <ℤ next → IsEndOfDay off day (of_secs (next -ℤ pos 1) 999_999_999)
  end_of_day some = record {
    in_day = in_day h.starts h.ends (omega numbers) (omega numbers);
    no_leap = omega arith;
    last = λ q k whole. none_after q next (starts_are k).1 whole;
  }

  -- a day of one second or more has this end, and no other
  pub one_end : {r : Reading} → IsEndOfDay off day r → (start <ℤ next) × (r.s ≡ next -ℤ pos 1)
  one_end {r = r} k =
      let within = starts_are k.in_day in let some : start <ℤ next = omega numbers in let own = end_of_day some in (
        some,
        by_lt_z r.s (next -ℤ pos 1) (λ less. absurd (k.last (of_secs (next -ℤ pos 1) 999_999_999) own.in_day own.no_leap (inl less)))
            (λ more. omega numbers),
      )

  pub empty_day : start ≡ next → HasNoEnd off day
  empty_day same r k inside = let some = (one_end k).0 in omega numbers

  pub end_out_of_range : (IsInRange (next -ℤ pos 1) → ⊥) → HasNoEnd off day
  end_out_of_range out r k inside = out (rw (one_end k).1 at inside)

  in_order : start ≤ℤ next
  in_order = grind numbers

pub told_end : {O T : Type 0} {m : Meaning O} (law : Law m) (day start next : ℤ) (told : T → Zoned O) (found : Option T)
    → AreStartsOfDays law.off day start next → (start ≡ next → ⊥)
    → MatchOption found (IsInRange (next -ℤ pos 1) → ⊥) (λ d. IsInRange (next -ℤ pos 1) × IsAt law (of_secs (next -ℤ pos 1) 999_999_999) (told d))
    → MatchOption found (HasNoEnd law.off day) (λ d. IsZonedEnd law day (told d))
told_end law day start next told found h some out = grind (numbers, end_out_of_range h, end_of_day h, in_order h)

-- offsets of less than a day
module _ (off : ℤ → ℤ) where
  -- the last instant of the buffer day after the range is out of range, since clocks are less than a day ahead
  pub end_of_last_day : (day : ℤ) → StayWithinDay off → last_day <ℤ day → HasNoEnd off day
  end_of_last_day day within late r k inside =
      let next = k.in_day.next in let near = within next.s k.in_day.ends.shown.in_zone in let reached = (to_reached k.in_day.ends.shown).reached in
      k.last (of_secs (pos 8_210_266_876_800) 0) (record {
        start = k.in_day.start;
        next = next;
        starts = k.in_day.starts;
        ends = k.in_day.ends;
        not_before = λ e. grind numbers;
        before = inl (omega numbers);
      }) (omega arith) (inl (omega numbers))

  -- a midnight before the range comes before the range in each zone
  too_early : (day : ℤ) → StayWithinDay off → day <ℤ first_day → IsFirstOutOfRange off (midnight day)
  too_early day within early =
      let inside : IsZoneSecond (neg_ℤ (pos 8_334_601_228_801)) = (omega numbers, omega numbers) in
      let near = within (neg_ℤ (pos 8_334_601_228_801)) inside in
      let found = first_until {l = (midnight day).s} {v = neg_ℤ (pos 8_334_601_228_801)} (record { in_zone = inside; reached = omega numbers }) in
      out_of_range {l = midnight day} found.1 (λ range. omega (numbers, range))

  -- ---- the day n days before that of a date
  pub no_earlier_day : (old : ℤ) (n : ℕ) → StayWithinDay off → IsWideDay old → IsDaysLater day_of IsDateOn old (neg_ℤ (pos n)) None
      → IsFirstOutOfRange off (midnight (old -ℤ pos n))
  no_earlier_day = grind (arith, too_early)

pub earlier_day : (old : ℤ) (n : ℕ) (date : NaiveDate) → IsDaysLater day_of IsDateOn old (neg_ℤ (pos n)) (Some date) → day_of date ≡ old -ℤ pos n
earlier_day = grind arith

-- gaps and folds at the local time l, whose first instant is a
module _ (off : ℤ → ℤ) (l a : Reading) where
  first_shown : (u k : ℤ) → ShowsByOffset off l.s u k → NonePassed off l.s (l.s -ℤ k) → ((v : ℤ) → ShowsByOffset off l.s v (off v) → u ≤ℤ v)
      → IsFirstInstantFrom off l a → a ≡ behind l k
  first_shown u k h none least first =
      let back : u ≡ l.s -ℤ k = omega numbers in let there : (u +ℤ off u) ≡ l.s = omega numbers in
      let before = rw (← back) at none in let reaches : IsFirstToReach off l.s u = grind numbers in
      one_first first (first_instant (rw back at reaches) (inl (rw back at there, refl)))

  pub first_of_one : (k : ℤ) → IsShownOnce (ShowsByOffset off l.s) k → NonePassed off l.s (l.s -ℤ k) → IsFirstInstantFrom off l a → a ≡ behind l k
  first_of_one k h none first = search (rules, numbers, first_shown)

  pub first_of_fold : (k last : ℤ) → IsShownBetween (ShowsByOffset off l.s) k last → NonePassed off l.s (l.s -ℤ k) → IsFirstInstantFrom off l a
      → a ≡ behind l k
  first_of_fold k last h none first = search (rules, numbers, first_shown)

  pub not_later : (u k : ℤ) → ShowsByOffset off l.s u k → IsFirstInstantFrom off l a → ¬ (IsEarlier (behind l k) a)
  not_later u k h first = grind (numbers, first.first (behind l k))

  pub gap_end : IsNeverShown (ShowsByOffset off l.s) → IsFirstInstantFrom off l a → IsGapEnd off l.s a
  gap_end never h =
      let reached = to_reached h.shown in
      let past : l.s <ℤ (a.s +ℤ off a.s) = by_lt_z l.s (a.s +ℤ off a.s) (λ less. less)
      (λ not. absurd (never a.s (off a.s) (record { in_zone = h.shown.in_zone; offset = refl; shown = omega numbers }))) in
      record {
        whole = let first = h.first (of_secs a.s 0) (record { in_zone = h.shown.in_zone; not_before = λ e. grind numbers }) in grind numbers;
        before = λ u inside less. by_lt_z (u +ℤ off u) l.s (λ c. c) (λ more. by_lt_z l.s (u +ℤ off u)
            (λ later. absurd (h.first (of_secs u 0) (record { in_zone = inside; not_before = λ e. grind numbers }) (inl less)))
            (λ not. absurd (never u (off u) (record { in_zone = inside; offset = refl; shown = omega numbers }))));
        after = past;
      }
