-- Stored offsets, and lengths of time in months and days.
use Rattle.std.proofs.lemmas.Bool.{cases_lt}
use Rattle.naive_base.specs.Since.{AreDaysCounted, AreMonthsCounted, HaveDaysPassed, HaveMonthsPassed, IsGreatest, days_later, later_by}
use Rattle.naive_base.specs.Reading.{ahead, difference, moved}
use Rattle.offset_core.specs.TimeDelta.{nanos_of}
use Rattle.naive_base.proofs.ForCallers.{moved-difference, first_not_after, later_not_before, months_reached, months_rise_with}
use Rattle.zoned_time.specs.{Calendar.{AreCounts, HasMovedBy, HasNoLength, HasNoSum, HasReachedBy, IsAtOffset, IsCalendarLength, IsCalendarSum, IsMovedBy, MonthsPassedBy, NoneAtOffset}, declared.calendar_length.CalendarLength.{CalendarLength}}
use Rattle.zoned_time.specs.Steps.Reached.{AreCountedBy, IsLastReachedBy, IsNotMoved}
use Rattle.zoned_time.proofs.Words.{IsAt, IsAtInRange, IsEarlier, IsFirstInstantFrom, IsFirstOutOfRange, IsFirstToReach, IsInRange, IsInstantFrom, IsReachedAt, IsResolved, IsUnresolved}
use Rattle.zoned_time.proofs.Words.{IsWide, IsWithinDay, IsZoneSecond, IsOffsetAt, IsZonedAtOrAfter, Law, local_of, MatchOption, Meaning, None, Option, option_map, Reading, SameLaw, SameOffsets, ShowsByOffset, Some}
use Rattle.std.proofs.Common.{Bool, false}
use Rattle.zoned_time.proofs.Words.{Choice, Err, IsTrue, MatchResult, ◌↔◌, ◌<ℤ◌, Ok, ResolveError, Result, ◌-ℤ◌}
use Rattle.offset_core.specs.declared.time_delta.TimeDelta.{TimeDelta}
use Rattle.zoned_time.proofs.Words.{Zoned, home_law, ap, arith, behind, by_lt_z, inl, inr, numbers, pos, refl, subst, sym, ℕ, ℤ, ◌+ℤ◌, ◌∙◌, ◌≡◌, ◌≤ℤ◌, ◌⊎◌, ◌<◌}
use Rattle.zoned_time.proofs.{DayStarts.{StayWithinDay, one_first, through}, Homes.{at_home, at_or_after_home, resolved_home, unresolved_home}}
use Rattle.std.specs.Prelude.{◌+◌, ◌≤◌}

-- ---- the last local date-time that clocks have reached
-- w is the last second of a local time that they have shown by then, and u the first second at which they show it or a later one
module _ {off : ℤ → ℤ} {t : Reading} {w u : ℤ} (real : t.f < 2_000_000_000) (last : IsReachedAt off t.s w) (first : IsFirstToReach off w u) where
  no_later : (l : Reading) → HasReachedBy off l t → l.s ≤ℤ w
  no_later l h =
      let shown = first_not_after (record { s = h.instant.s +ℤ off h.instant.s; f = h.instant.f }) l h.from.not_before in
      let until = first_not_after t h.instant h.not_after in
      omega (numbers, last.last h.instant.s h.from.in_zone until)

  -- they show it for the first time then
  pub reached_now : u ≡ t.s → IsLastReachedBy off t (record { s = w; f = t.f })
  reached_now now = record {
    reached = record {
      nanoseconds = real;
      instant = t;
      from = record {
        in_zone = rw (sym now) (first.reached.in_zone);
        not_before = let shown : w ≤ℤ (t.s +ℤ off t.s) = rw (sym now) (first.reached.reached) in
            λ e. elim e [ inl less ↦ omega numbers | inr both ↦ omega numbers ];
      };
      not_after = λ e. elim e [ inl less ↦ omega numbers | inr both ↦ omega numbers ];
    };
    last = λ l h e.
        let most = no_later l h in let until = first_not_after t h.instant h.not_after in
        let shown = first_not_after (record { s = h.instant.s +ℤ off h.instant.s; f = h.instant.f }) l h.from.not_before in
        let highest = last.last h.instant.s h.from.in_zone until in
        elim e [
          | inl less ↦ omega numbers
          | inr both ↦
              let since = first.first h.instant.s (record { in_zone = h.from.in_zone; reached = omega numbers }) in
              elim (cases_lt h.instant.f l.f) [
                | inl less ↦ h.from.not_before (inr (omega numbers, less))
                | inr more ↦ h.not_after (inr (omega numbers, omega numbers))
              ]
        ];
  }

  -- they had shown it before
  pub reached_before : (u ≡ t.s → ⊥) → IsLastReachedBy off t (record { s = w; f = 1_999_999_999 })
  reached_before before =
      let here = first.first last.at (record { in_zone = last.in_zone; reached = omega numbers }) in
      let earlier : (u +ℤ pos 1) ≤ℤ t.s = by_lt_z u t.s (λ less. omega numbers) (λ more. absurd (before (omega numbers))) in record {
        reached = record {
          nanoseconds = omega numbers;
          instant = record { s = u; f = 1_999_999_999 };
          from = record {
            in_zone = first.reached.in_zone;
            not_before = let shown = first.reached.reached in
                λ e. elim e [ inl less ↦ omega numbers | inr both ↦ omega numbers ];
          };
          not_after = λ e. elim e [ inl less ↦ omega numbers | inr both ↦ omega numbers ];
        };
        last = λ l h e. let most = no_later l h in let most_nanos = h.nanoseconds in elim e [ inl less ↦ omega numbers | inr both ↦ omega numbers ];
      }

-- ---- zones of the same offsets
module _ {off home : ℤ → ℤ} (same : SameOffsets off home) where
  from_home : {l q : Reading} → IsInstantFrom off l q → IsInstantFrom home l q
  from_home {q = q} h = record { in_zone = h.in_zone; not_before = rw (same q.s h.in_zone) at h.not_before }

  reached_home : {l t : Reading} → HasReachedBy off l t → HasReachedBy home l t
  reached_home h = record { nanoseconds = h.nanoseconds; instant = h.instant; from = from_home h.from; not_after = h.not_after }

swapped : {off home : ℤ → ℤ} → SameOffsets off home → SameOffsets home off
swapped same u inside = sym (same u inside)

pub last_home : {off home : ℤ → ℤ} {t r : Reading} → SameOffsets off home → IsLastReachedBy off t r → IsLastReachedBy home t r
last_home same h = record { reached = reached_home same h.reached; last = λ l reached. h.last l (reached_home (swapped same) reached) }

-- ---- the counts
then_days : (m : Reading) (n k : ℕ) → days_later (later_by m n 0) k ≡ later_by m n k
then_days m n k = ap (λ s. record { s = s; f = m.f }) (omega numbers)

-- of what clocks have reached last, r
module _ (off : ℤ → ℤ) (e m t r : Reading) (n d : ℕ) (real : m.f < 2_000_000_000) (not_earlier : ¬ (IsEarlier t e)) (last : IsLastReachedBy off t r)
    (months : AreMonthsCounted r m n) (days : AreDaysCounted r m n d) where
  months_by : IsGreatest (λ k. (k ≡ 0) ⊎ MonthsPassedBy off m t k) n
  months_by = record {
    holds = elim months.holds [ inl none ↦ inl none | inr passed ↦ inr (record { local = r; reached = last.reached; passed = passed }) ];
    greatest = λ k h. elim h [
      | inl none ↦ months.greatest k (inl none)
      | inr by ↦ months.greatest k (inr (months_rise_with by.local r m k (last.last by.local by.reached) by.passed))
    ];
  }

  reached_by_both : 1 ≤ n + d → ¬ (IsEarlier r (later_by m n d))
  reached_by_both some = elim days.holds [
    | inr passed ↦ subst (λ l. ¬ (IsEarlier r l)) (then_days m n d) passed
    | inl none ↦ elim months.holds [
      | inl no_months ↦ absurd (omega numbers)
      | inr passed ↦ subst (λ k. ¬ (IsEarlier r (later_by m n k))) (sym none) (months_reached r m n passed)
    ]
  ]

  -- the instant that is moved isn't after t
  moved_by_then : (q : Reading) → IsMovedBy off e m n d q → ¬ (IsEarlier t q)
  moved_by_then q h = elim h [
    | inl stays ↦ subst (λ x. ¬ (IsEarlier t x)) (sym stays.1) not_earlier
    | inr moves ↦
        let at = last.reached.instant in let from = last.reached.from in
        let later = through (record { s = at.s +ℤ off at.s; f = at.f }) r (later_by m n d) from.not_before (reached_by_both moves.0) in
        through t at q last.reached.not_after (moves.1.first at (record { in_zone = from.in_zone; not_before = later }))
  ]

  days_by : (q : Reading) → IsMovedBy off e m n d q → IsGreatest (λ k. HasMovedBy off e m t n k) d
  days_by q h = record {
    holds = record { instant = q; moved = h; not_after = moved_by_then q h };
    greatest = λ k by. elim by.moved [
      | inl stays ↦ omega numbers
      | inr moves ↦
          let reached = last.last (later_by m n k) (record { nanoseconds = real; instant = by.instant; from = moves.1.shown; not_after = by.not_after }) in
          days.greatest k (inr (subst (λ l. ¬ (IsEarlier r l)) (sym (then_days m n k)) reached))
    ];
  }

  pub counts : (q : Reading) → IsMovedBy off e m n d q → AreCounts off e m t n d q
  counts q h = record { not_earlier = not_earlier; months = months_by; days = days_by q h; moved = h }

-- ---- instants moved by months and days
-- the local date-time is out of what clocks can show in range
pub never_moved : (off : ℤ → ℤ) (e m : Reading) (n d : ℕ) → StayWithinDay off → IsWide m.s → 1 ≤ n + d → ¬ (IsWide (later_by m n d).s)
    → (r : Reading) → IsMovedBy off e m n d r → IsInRange r.s → ⊥
never_moved off e m n d within wide some not r h range = elim h [
  | inl stays ↦ omega numbers
  | inr moves ↦
      let shown = first_not_after (record { s = r.s +ℤ off r.s; f = r.f }) (later_by m n d) moves.1.shown.not_before in
      let near = within r.s moves.1.shown.in_zone in let later = later_not_before m n d in not (omega numbers, omega numbers)
]

pub within_home : {off home : ℤ → ℤ} → SameOffsets off home → StayWithinDay off → StayWithinDay home
within_home {off = off} {home = home} same within u inside = subst (λ k. IsWithinDay k) (same u inside) (within u inside)

pub one_moved : (off : ℤ → ℤ) (e m : Reading) (n d : ℕ) (q r : Reading) → IsMovedBy off e m n d q → IsMovedBy off e m n d r → q ≡ r
one_moved off e m n d q r h i = elim h [
  | inl stays ↦ elim i [ inl too ↦ stays.1 ∙ sym too.1 | inr moves ↦ absurd (omega numbers) ]
  | inr moves ↦ elim i [ inl stays ↦ absurd (omega numbers) | inr too ↦ one_first moves.1 too.1 ]
]

first_moved : {O T : Type 0} {m : Meaning O} (home : Law m) (e l : Reading) (n d : ℕ) (told : T → Zoned O) (found : Option T) → 1 ≤ n + d
    → MatchOption found (IsFirstOutOfRange home.off (later_by l n d)) (λ x. IsZonedAtOrAfter home (later_by l n d) (told x))
    → MatchOption found (IsNotMoved home.off e l n d) (λ x. IsMovedBy home.off e l n d (told x).utc × SameLaw (home_law m (told x).offset) home)
first_moved home e l n d told None some h =
    let is : IsMovedBy home.off e l n d h.0 = inr (some, h.1) in record {
      some = some;
      none = λ r moved range. h.2 (subst (λ (x : Reading). IsInRange x.s) (one_moved home.off e l n d r h.0 moved is) range);
      far = inr (h.0, is, h.2);
    }
first_moved home e l n d told (Some x) some h = (inr (some, h.first), h.offset.same_home)

-- the first instant of a zone of the same law
pub moved_to_first : {O T : Type 0} {m : Meaning O} (law home : Law m) (same : SameLaw law home) (e l : Reading) (n d : ℕ) (told : T → Zoned O) (found : Option T) → 1 ≤ n + d
    → MatchOption found (IsFirstOutOfRange law.off (later_by l n d)) (λ x. IsZonedAtOrAfter law (later_by l n d) (told x))
    → MatchOption found (IsNotMoved home.off e l n d) (λ x. IsMovedBy home.off e l n d (told x).utc × SameLaw (home_law m (told x).offset) home)
moved_to_first law home same e l n d told found some h =
    first_moved home e l n d told found some (at_or_after_home law home same (later_by l n d) told found h)

-- and then moved by a time
pub sum_of : {O T : Type 0} {m : Meaning O} (law home : Law m) (same : SameLaw law home) (e l q : Reading) (n d : ℕ) (nanos : ℤ) (told : T → Zoned O) (found : Option T)
    → IsMovedBy home.off e l n d q → IsInRange q.s → IsAtInRange law (moved q nanos) (option_map told found)
    → MatchOption found (HasNoSum home.off e l n d nanos) (λ x. IsCalendarSum home e l n d nanos (told x))
sum_of law home same e l q n d nanos told None is range h =
    λ r too inside to. h (subst (λ (x : Reading). IsInRange (moved x nanos).s) (one_moved home.off e l n d r q too is) to)
sum_of law home same e l q n d nanos told (Some x) is range h =
    record { instant = q; moved_by = is; in_range = range; at = at_home law home same (moved q nanos) (told x) h.0 h.1 }

-- ---- the answers of the calls
never_both : (b : Bool) → IsTrue b → b ≡ false → ⊥
never_both b yes_true is_false = grind arith

pub not_earlier_by : (b : Bool) (u v s t : Reading) → IsTrue b ↔ IsEarlier u v → b ≡ false → u ≡ s → v ≡ t → ¬ (IsEarlier s t)
not_earlier_by b u v s t by is_false first second =
    let not : ¬ (IsEarlier u v) = λ h. never_both b (by.1 h) is_false in
    subst (λ x. ¬ (IsEarlier x t)) first (subst (λ x. ¬ (IsEarlier u x)) second not)

pub at_offset_is : {O : Type 0} {m : Meaning O} (law : Law m) (l u : Reading) (k : ℤ) (d : Zoned O) → u ≡ behind l k → IsInRange (behind l k).s → IsAt law u d
    → m.seconds d.offset ≡ k → IsAtOffset law l k d
at_offset_is law l u k d e range at same =
    let utc : d.utc ≡ behind l k = at.utc ∙ e in let s : d.utc.s ≡ l.s -ℤ k = ap (λ (r : Reading). r.s) utc in record {
      shows = record { in_zone = (omega numbers, omega numbers); offset = sym same ∙ at.offset.there; shown = omega numbers };
      fraction = ap (λ (r : Reading). r.f) utc;
      at = record { utc = refl; offset = at.offset };
    }

pub at_least_zero : (b : Bool) (n : ℤ) → IsTrue b ↔ (n <ℤ pos 0) → b ≡ false → pos 0 ≤ℤ n
at_least_zero b n by is_false = by_lt_z n (pos 0) (λ less. absurd (never_both b (by.1 less) is_false)) (λ more. more)

none_home : {off home : ℤ → ℤ} {l k : ℤ} → SameOffsets off home → NoneAtOffset off l k → NoneAtOffset home l k
none_home same h u shows range =
    h u (record { in_zone = shows.in_zone; offset = shows.offset ∙ sym (same u shows.in_zone); shown = shows.shown }) range

pub resolved_at_home : {O D : Type 0} {m : Meaning O} (law home : Law m) (same : SameLaw law home) (l : Reading) (k : ℤ) (choice : Choice) (told : D → Zoned O)
    (found : Result D ResolveError) → NoneAtOffset law.off l.s k
    → MatchResult found (λ d. IsResolved law l choice (told d)) (λ e. IsUnresolved law.off l.s choice e)
    → MatchResult found (λ d. IsAtOffset home l k (told d) ⊎ (NoneAtOffset home.off l.s k × IsResolved home l choice (told d)))
    (λ e. NoneAtOffset home.off l.s k × IsUnresolved home.off l.s choice e)
resolved_at_home law home same l k choice told (Ok d) none h = inr (none_home same.offsets none, resolved_home same l h)
resolved_at_home law home same l k choice told (Err e) none h = (none_home same.offsets none, unresolved_home same.offsets l.s h)

module _ (off : ℤ → ℤ) (e m t : Reading) (n d : ℕ) (real : m.f < 2_000_000_000) (not_earlier : ¬ (IsEarlier t e)) (counted : AreCountedBy off m t n d) where
  counts_of : (q : Reading) → IsMovedBy off e m n d q → AreCounts off e m t n d q
  counts_of = counts off e m t counted.local n d real not_earlier counted.last counted.months counted.days

  pub no_length : IsNotMoved off e m n d → HasNoLength off e m t
  no_length not = elim not.far [
    | inr out ↦ inr (n, d, out.0, counts_of out.0 out.1, λ range more. out.2 range)
    | inl far ↦
        let by_both = reached_by_both off e m t counted.local n d real not_earlier counted.last counted.months counted.days not.some in
        let reached = first_not_after counted.local (later_by m n d) by_both in
        let later = later_not_before m n d in let high = counted.wide in let low = counted.wide_start in absurd (far (omega numbers, omega numbers))
  ]

  pub negative : (q : Reading) → IsMovedBy off e m n d q → (pos 0 ≤ℤ difference t q → ⊥) → HasNoLength off e m t
  negative q h less = inr (n, d, q, counts_of q h, λ range more. less more)

  pub is_length : (q : Reading) (time : TimeDelta) → IsMovedBy off e m n d q → IsInRange q.s → nanos_of time ≡ difference t q → pos 0 ≤ℤ nanos_of time
      → IsCalendarLength off e m t (record { months = n; days = d; time = time })
  is_length q time h range is more = record { instant = q; counts = counts_of q h; in_range = range; time = is; not_negative = subst (λ z. pos 0 ≤ℤ z) is more }

-- ---- laws
pub one_at_offset : {O : Type 0} {m : Meaning O} (law : Law m) (l : Reading) (k : ℤ) (d e : Zoned O) → IsAtOffset law l k d → IsAtOffset law l k e → d.utc ≡ e.utc
one_at_offset law l k d e h i = grind numbers

one_greatest : (p : ℕ → Type 0) (a b : ℕ) → IsGreatest p a → IsGreatest p b → a ≡ b
one_greatest p a b h i = let low = h.greatest b i.holds in let high = i.greatest a h.holds in omega numbers

pub one_length : (off : ℤ → ℤ) (e m t : Reading) (a b : CalendarLength) → IsCalendarLength off e m t a → IsCalendarLength off e m t b
    → (a.months ≡ b.months) × (a.days ≡ b.days) × (nanos_of a.time ≡ nanos_of b.time)
one_length off e m t a b h i =
    let months : a.months ≡ b.months = one_greatest (λ k. (k ≡ 0) ⊎ MonthsPassedBy off m t k) a.months b.months h.counts.months i.counts.months in
    let same : IsGreatest (λ k. HasMovedBy off e m t b.months k) a.days =
    subst (λ n. IsGreatest (λ k. HasMovedBy off e m t n k) a.days) months h.counts.days in
    let days : a.days ≡ b.days = one_greatest (λ k. HasMovedBy off e m t b.months k) a.days b.days same i.counts.days in
    let moved : IsMovedBy off e m b.months b.days h.instant =
    subst (λ d. IsMovedBy off e m b.months d h.instant) days (subst (λ n. IsMovedBy off e m n a.days h.instant) months h.counts.moved) in
    (months, days, h.time ∙ ap (λ r. difference t r) (one_moved off e m b.months b.days h.instant i.instant moved i.counts.moved) ∙ sym i.time)

-- an instant that is moved keeps its fraction, or has none: it lies in no leap second
first_fraction : {off : ℤ → ℤ} {l r : Reading} → IsFirstInstantFrom off l r → r.f ≤ l.f
first_fraction {off = off} {l = l} {r = r} h = elim (cases_lt l.f r.f) [
  | inr least ↦ least
  | inl less ↦
      let reached = first_not_after (record { s = r.s +ℤ off r.s; f = r.f }) l h.shown.not_before in
      absurd (h.first (record { s = r.s; f = l.f }) (record { in_zone = h.shown.in_zone; not_before = λ e. elim e [ inl lt ↦ omega numbers | inr both ↦ omega numbers ] })
      (inr (refl, less)))
]

pub comes_back : {O : Type 0} {m : Meaning O} (law : Law m) (e l t : Reading) (length : CalendarLength) (sum : Zoned O) → e.f < 1_000_000_000
    → l.f ≡ e.f → t.f < 1_000_000_000 → IsCalendarLength law.off e l t length
    → IsCalendarSum law e l length.months length.days (nanos_of length.time) sum → sum.utc ≡ t
comes_back law e l t length sum low same_fraction plain h s =
    let q = h.instant in let same : s.instant ≡ q = one_moved law.off e l length.months length.days s.instant q s.moved_by h.counts.moved in
    let fraction : q.f < 1_000_000_000 = elim h.counts.moved [
      | inl stays ↦ subst (λ (r : Reading). r.f < 1_000_000_000) (sym stays.1) low
      | inr moves ↦ let least = first_fraction moves.1 in omega numbers
    ] in
    s.at.utc ∙ ap (λ r. moved r (nanos_of length.time)) same ∙ ap (λ n. moved q n) h.time ∙ moved-difference t q plain fraction

pub own_local : {O : Type 0} {m : Meaning O} (law : Law m) (d : Zoned O) → IsInRange d.utc.s → IsOffsetAt law d.utc.s d.offset
    → IsAtOffset law (local_of m.seconds d) (m.seconds d.offset) d
own_local law d range offset = record {
  shows = record { in_zone = (omega numbers, omega numbers); offset = offset.there; shown = refl };
  fraction = refl;
  at = record { utc = refl; offset = offset };
}

-- clocks of UTC show the instants
module _ (off : ℤ → ℤ) (utc : (u : ℤ) → IsZoneSecond u → off u ≡ pos 0) where
  as_shown : (q : Reading) → IsZoneSecond q.s → ahead q (off q.s) ≡ q
  as_shown q inside = let none = utc q.s inside in ap (λ s. record { s = s; f = q.f }) (omega numbers)

  from_utc : (l q : Reading) → IsInstantFrom off l q → ¬ (IsEarlier q l)
  from_utc l q h = subst (λ x. ¬ (IsEarlier x l)) (as_shown q h.in_zone) h.not_before

  at_utc : (l q : Reading) → IsZoneSecond q.s → ¬ (IsEarlier q l) → IsInstantFrom off l q
  at_utc l q inside not = record { in_zone = inside; not_before = subst (λ x. ¬ (IsEarlier x l)) (sym (as_shown q inside)) not }

  not_itself : (q : Reading) → ¬ (IsEarlier q q)
  not_itself q e = elim e [ inl less ↦ omega numbers | inr both ↦ omega numbers ]

  last_in_utc : (t : Reading) → t.f < 2_000_000_000 → IsZoneSecond t.s → IsLastReachedBy off t t
  last_in_utc t real inside = record {
    reached = record { nanoseconds = real; instant = t; from = at_utc t t inside (not_itself t); not_after = not_itself t };
    last = λ l h. through t h.instant l h.not_after (from_utc l h.instant h.from);
  }

  pub months_in_utc : (e t r : Reading) (n d : ℕ) → t.f < 2_000_000_000 → IsZoneSecond t.s → AreCounts off e e t n d r → AreMonthsCounted t e n
  months_in_utc e t r n d real inside h = let last = last_in_utc t real inside in record {
    holds = elim h.months.holds [
      | inl none ↦ inl none
      | inr by ↦ inr (months_rise_with by.local t e n (last.last by.local by.reached) by.passed)
    ];
    greatest = λ k passed. elim passed [
      | inl none ↦ h.months.greatest k (inl none)
      | inr months ↦ h.months.greatest k (inr (record { local = t; reached = last.reached; passed = months }))
    ];
  }

  moved_in_utc : (e t : Reading) (n k : ℕ) → IsInRange e.s → IsInRange t.s → ¬ (IsEarlier t e) → ¬ (IsEarlier t (later_by e n k)) → HasMovedBy off e e t n k
  moved_in_utc e t n k low high not_earlier not = elim (cases_lt 0 (n + k)) [
    | inr none ↦ record { instant = e; moved = inl (omega numbers, refl); not_after = not_earlier }
    | inl some ↦
        let l = later_by e n k in let more = later_not_before e n k in let most = first_not_after t l not in
        let inside : IsZoneSecond l.s = (omega numbers, omega numbers) in record {
          instant = l;
          moved = inr (omega numbers, record { shown = at_utc l l inside (not_itself l); first = λ q h. from_utc l q h });
          not_after = not;
        }
  ]

  pub days_in_utc : (e t r : Reading) (n d : ℕ) → e.f < 2_000_000_000 → t.f < 2_000_000_000 → IsInRange e.s → IsInRange t.s → AreCounts off e e t n d r
      → AreDaysCounted t e n d
  days_in_utc e t r n d real plain low high h =
      let inside : IsZoneSecond t.s = (omega numbers, omega numbers) in let last = last_in_utc t plain inside in let by = h.days.holds in record {
        holds = elim by.moved [
          | inl stays ↦ inl (omega numbers)
          | inr moves ↦
              let reached = last.last (later_by e n d) (record { nanoseconds = real; instant = by.instant; from = moves.1.shown; not_after = by.not_after }) in
              inr (subst (λ l. ¬ (IsEarlier t l)) (sym (then_days e n d)) reached)
        ];
        greatest = λ k passed. elim passed [
          | inl none ↦ omega numbers
          | inr days ↦ h.days.greatest k (moved_in_utc e t n k low high h.not_earlier (subst (λ l. ¬ (IsEarlier t l)) (then_days e n k) days))
        ];
      }
