-- Days of clocks that are set once.
use Rattle.tests_pins.proofs.Words.{AreEndsOfDay, AreSetAt, IsEarlier, IsFirstInstantFrom, IsNeverOnDay, IsZoneSecond, Reading, arith, by_lt_z, ints, midnight}
use Rattle.tests_pins.proofs.Words.{IsFirstToReach, of_secs, pos, ℤ, ◌*ℤ◌, ◌+ℤ◌, ◌-ℤ◌, ◌<◌, ◌<ℤ◌, ◌≡◌, ◌≤ℤ◌}
use Rattle.zoned_time.specs.DayEnds.{IsLengthOfDay}

pub not_earlier_than : (x y : Reading) → y.f ≡ 0 → y.s ≤ℤ x.s → ¬ (IsEarlier x y)
not_earlier_than x y whole h early = grind (arith, ints)

-- a whole second is the first instant at or after a local time if clocks show that or more then, and less at each second before
pub first_instant_of : (off : ℤ → ℤ) (l : Reading) (u : ℤ) → l.f ≡ 0 → IsZoneSecond u → l.s ≤ℤ (u +ℤ off u) → ((v : ℤ) → v <ℤ u → (v +ℤ off v) <ℤ l.s)
    → IsFirstInstantFrom off l (of_secs u 0)
first_instant_of off l u whole inside reached less = grind (arith, ints, not_earlier_than, by_lt_z)

first_instant : (off : ℤ → ℤ) (day u : ℤ) → IsZoneSecond u → (day *ℤ pos 86_400) ≤ℤ (u +ℤ off u) → ((v : ℤ) → v <ℤ u → (v +ℤ off v) <ℤ (day *ℤ pos 86_400))
    → IsFirstInstantFrom off (midnight day) (of_secs u 0)
first_instant off day u inside reached less = grind (arith, ints, not_earlier_than, by_lt_z)

-- the second at which clocks are set, if they jump over the midnight
pub at_the_jump : (off : ℤ → ℤ) (at k m day : ℤ) → AreSetAt off at k m → IsZoneSecond at → (at +ℤ k) ≤ℤ (day *ℤ pos 86_400) → (day *ℤ pos 86_400) ≤ℤ (at +ℤ m)
    → IsFirstInstantFrom off (midnight day) (of_secs at 0)
at_the_jump off at k m day set inside below above = grind (arith, ints, first_instant)

-- a second before they are set shows the midnight
pub before_the_jump : (off : ℤ → ℤ) (at k m day u : ℤ) → AreSetAt off at k m → IsZoneSecond u → u <ℤ at → (u +ℤ k) ≡ day *ℤ pos 86_400
    → IsFirstInstantFrom off (midnight day) (of_secs u 0)
before_the_jump off at k m day u set inside early shown = grind (arith, ints, first_instant)

-- and a second after they are set back does
pub after_the_jump : (off : ℤ → ℤ) (at k m day u : ℤ) → AreSetAt off at k m → IsZoneSecond u → at ≤ℤ u → (u +ℤ m) ≡ day *ℤ pos 86_400
    → (at +ℤ k) ≤ℤ (day *ℤ pos 86_400) → IsFirstInstantFrom off (midnight day) (of_secs u 0)
after_the_jump off at k m day u set inside late shown below = grind (arith, ints, set.from u late)

-- clocks are set over the whole day
pub skipped : (off : ℤ → ℤ) (at k m day : ℤ) → AreSetAt off at k m → (at +ℤ k) ≤ℤ (day *ℤ pos 86_400)
    → ((day +ℤ pos 1) *ℤ pos 86_400) ≤ℤ (at +ℤ m) → IsNeverOnDay off day
skipped off at k m day set below above u h =
    let since = h.since in let before = h.before in
    by_lt_z u at
    (λ early. let is = set.before u early in omega (arith, ints))
    (λ late. let is = set.from u late in omega (arith, ints))

pub day_after_the_jump : (off : ℤ → ℤ) (at k m day last : ℤ) → AreSetAt off at k m → IsZoneSecond at → IsZoneSecond last → (at +ℤ k) ≤ℤ (day *ℤ pos 86_400)
    → (day *ℤ pos 86_400) ≤ℤ (at +ℤ m)
    → (last +ℤ m) +ℤ pos 1 ≡ (day +ℤ pos 1) *ℤ pos 86_400 → at ≤ℤ last → AreEndsOfDay off day at last
day_after_the_jump off at k m day last set inside inside_last below above ends late = record {
  shown_first = let is = set.from at (omega (arith, ints)) in record { in_zone = inside; since = omega (arith, ints); before = omega (arith, ints) };
  shown_last = let is = set.from last late in record { in_zone = inside_last; since = omega (arith, ints); before = omega (arith, ints) };
  not_before = λ u h. by_lt_z u at (λ early. let is = set.before u early in let since = h.since in absurd (omega (arith, ints))) (λ from. from);
  not_after = λ u h. by_lt_z u at (λ early. omega (arith, ints)) (λ from. let is = set.from u from in let before = h.before in omega (arith, ints));
}

pub day_over_the_jump : (off : ℤ → ℤ) (at k m day first last : ℤ) → AreSetAt off at k m → IsZoneSecond first → IsZoneSecond last → first <ℤ at → at ≤ℤ last
    → (first +ℤ k) ≡ day *ℤ pos 86_400
    → (last +ℤ m) +ℤ pos 1 ≡ (day +ℤ pos 1) *ℤ pos 86_400 → m ≤ℤ k → AreEndsOfDay off day first last
day_over_the_jump off at k m day first last set inside inside_last early late begins ends back = record {
  shown_first = let is = set.before first early in record { in_zone = inside; since = omega (arith, ints); before = omega (arith, ints) };
  shown_last = let is = set.from last late in record { in_zone = inside_last; since = omega (arith, ints); before = omega (arith, ints) };
  not_before = λ u h. let since = h.since in by_lt_z u at (λ less. let is = set.before u less in omega (arith, ints)) (λ from. omega (arith, ints));
  not_after = λ u h. let before = h.before in by_lt_z u at (λ less. omega (arith, ints)) (λ from. let is = set.from u from in omega (arith, ints));
}

-- an instant before a whole second is not later than its second before and the last nanosecond of that, but for leap seconds
pub last_before : (at : ℤ) (q next : Reading) → q.f < 1_000_000_000 → IsEarlier q next → ¬ (IsEarlier (of_secs at 0) next)
    → ¬ (IsEarlier (record { s = at -ℤ pos 1; f = 999_999_999 }) q)
last_before at q next less before until later = grind (arith, ints)

-- a day that starts when the next one does is empty
pub never_both : (at r start next : Reading) → ¬ (IsEarlier r start) → IsEarlier r next → ¬ (IsEarlier start at) → ¬ (IsEarlier at next) → ⊥
never_both at r start next from before begins until = grind (arith, ints)

-- the length of a day, if both starts are known
pub length_between : (off : ℤ → ℤ) (day start next nanos : ℤ) → IsFirstToReach off (midnight day).s start
    → IsFirstToReach off (midnight (day +ℤ pos 1)).s next → nanos ≡ (next -ℤ start) *ℤ pos 1_000_000_000 → IsLengthOfDay off day nanos
length_between off day start next nanos starts ends length = record {
  start = start;
  next = next;
  are_starts = record { starts = starts; ends = ends };
  length = length;
}

pub ruleset set_days = (ints, at_the_jump, before_the_jump, after_the_jump, skipped, day_after_the_jump, day_over_the_jump)
