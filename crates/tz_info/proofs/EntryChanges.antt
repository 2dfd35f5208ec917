-- What a zone's entries say of it: the types in force, the clock changes, and the spans between them.
use Rattle.tz_info.proofs.{
  LeapOrder.leap_times_answer,
  Prefixes.{any, index_within, search_found},
  SegmentLaws.{begin_next, come_at_time, come_by_time, come_from, not_later, place_before, place_begin, place_most, places_rise, segment_most, split_at},
  SegmentLaws.{split_count},
  Words.{AreLeapSeconds, AreRising, Bool, Change, Counts, HasNoChange, HasType, IsAhead, IsBeforeLast, IsChange, IsInTable, IsLeapTime, IsNear, IsNearest},
  Words.{IsNearestChange, IsSpanAt, IsTrue, IsValid, LeapSecond, List, LocalType, None, Option, Precedes, RoseWithin, SFits, Some, Transition, TypeAt, Zone},
  Words.{arith, begin_of, cases_lt, correction_at, digits, digits-le, digits-more, false, get_or, index_at, index_of, inl, inr, leap_time_at, length, linear},
  Words.{passed, pos, refl, segment_of, slice_get, suc, sym, true, w64, zero, ℕ, ℤ, ◌+ℤ◌, ◌+◌, ◌-ℤ◌, ◌-◌, ◌<ℤ◌, ◌<◌, ◌↔◌, ◌∙◌, ◌≡◌, ◌≤ℤ◌, ◌≤◌},
  ZoneChanges.{out_before, out_from, refused_on, time_of},
  ZoneLaws.{before_or_from_last, inside_listed, last_index_below, leap_time_decided},
}
use Rattle.tz_info.specs.{
  Steps.Entries.{AreEntries, Entries, HaveComeAt, IsBetween, IsCome, IsEntryChange, entry_time, last_index, most_looks},
  Steps.Changes.{IsAheadChange, IsChangeWith, count_ahead},
  declared.zone.made.change_table.{Between.Between, Come.Come},
}

-- a number has few binary digits
pub ruleset few_digits = digits-le

abbrev count_at : Entries → ℤ → ℕ
count_at e u = length (passed e.items u)

abbrev time_at : Entries → ℕ → ℤ
time_at e k = entry_time e.items k

pub index_there : (e : Entries) (u : ℤ) → AreRising e.items → last_index (passed e.items u) ≡ index_of e.items (count_at e u)
index_there e u rising =
    let p = split_at _ u rising in let n = split_count _ u p.0 p.1 in grind (linear, search_found)

pub begin_at : (ts : List Transition) (k : ℕ) (d : Transition) → 0 < k → k ≤ length ts → (get_or ts (k - 1) d).unix_leap_time ≡ begin_of ts k
begin_at ts k d some within = grind (linear, begin_next)

-- ---- which seconds have a leap time
pub near_time : (es : List LeapSecond) (u : ℤ) → AreLeapSeconds es → IsNear u → IsLeapTime es u (u +ℤ correction_at es u)
near_time es u valid near = let d = leap_time_decided es u in let a = leap_times_answer es u valid near.0 near.1 in grind linear

-- ---- the type in force
pub have_come : (z : Zone) (e : Entries) (u : ℤ) (c : Come) → IsValid z → AreEntries z e → SFits w64 u → IsLeapTime z.leaps u (leap_time_at z u)
    → IsCome e u c → HaveComeAt z u c
have_come z e u c valid made fits l come = grind (linear, last_index_below)

pub not_last : (z : Zone) (u : ℤ) (c : Come) → HaveComeAt z u c → c.are_all ≡ false → IsBeforeLast z (leap_time_at z u)
not_last z u c h not = grind (linear, before_or_from_last)

pub rose_less : (a b : Counts) (m n p q : ℕ) → RoseWithin a b m p → m ≤ n → p ≤ q → RoseWithin a b n q
rose_less a b m n p q rose less fewer = grind linear

pub rose_then : (a b c : Counts) (m n p q : ℕ) → RoseWithin a b m p → RoseWithin b c n q → RoseWithin a c (m + n) (p + q)
rose_then a b c m n p q one two = grind linear

pub looks_most : (m n : ℕ) → 0 < n → m ≤ n → most_looks m ≤ digits n
unfolding digits
looks_most zero n some h = let k = digits-more 1 n some in omega arith
looks_most (suc m) n some h = digits-more (suc m) n h

-- the entry at that place is one of those that are left
abbrev IsLeftAt : Bool → ℕ → ℕ → ℕ → Type 0
IsLeftAt true len left place = len ≤ place + left
IsLeftAt false len left place = place < left

-- of the entries ahead of the second that many are left, and each change ahead comes with one of them
record AreLeft (z : Zone) (e : Entries) (w : Bool) (s : ℤ) (left : ℕ) : Type 0 where
  pub most : left ≤ count_ahead w (length e.items) (count_at e s)
  pub each : (j : ℕ) (d : Change) → j < length e.items → IsChange (TypeAt z) d → time_at e j ≡ d.at → IsAhead w s d.at → IsLeftAt w (length e.items) left j

-- a zone and its entries
module _ (z : Zone) (e : Entries) (valid : IsValid z) (made : AreEntries z e) where
  -- an entry is among those that have come if and only if its time has
  come_by : (k : ℕ) (u : ℤ) → k < length e.items → (k < count_at e u) ↔ (time_at e k ≤ℤ u)
  come_by k u h = grind (linear, come_by_time)

  -- a second before one with a leap time has one
  earlier_time : (u v y : ℤ) → u ≤ℤ v → IsLeapTime z.leaps v y → (x : ℤ) × IsLeapTime z.leaps u x
  earlier_time u v y h l = elim (leap_time_decided z.leaps u) [ inl x ↦ x | inr r ↦ absurd (refused_on _ u v y valid.leaps h r l) ]

  -- the type in force is the one after the entries that have come
  type_here : (u x : ℤ) (n : ℕ) → SFits w64 u → IsLeapTime z.leaps u x → count_at e u ≡ n
      → slice_get z.types (index_at z x) ≡ slice_get z.types (index_of e.items n)
  type_here u x n fits l count = let index = index_there e u made.rising in grind arith

  type_amid : (u x : ℤ) (n : ℕ) (t : LocalType) → SFits w64 u → IsLeapTime z.leaps u x → count_at e u ≡ n → n < e.all
      → HasType z (index_of e.items n) t → TypeAt z u t
  type_amid u x n t fits l count more has = let same = type_here u x n fits l count in grind linear

  amid_type : (u : ℤ) (n : ℕ) (t : LocalType) → SFits w64 u → 0 < length z.transitions → count_at e u ≡ n → n < e.all → TypeAt z u t
      → HasType z (index_of e.items n) t
  amid_type u n t fits some count more h =
      let l = time_of z u t some h in
      sym (type_here u _ n fits l count) ∙ h.in_force.before_last (grind (arith, place_most))

  -- a change before the last transition comes with an entry
  table_change : (d : Change) → IsChange (TypeAt z) d → segment_of z (d.at -ℤ pos 1) < length z.transitions
      → (k : ℕ) × (k < length e.items) × (time_at e k ≡ d.at)
  table_change d is table =
      let u = d.at -ℤ pos 1 in
      let m = count_at e u in
      let l = time_of z u _ (omega arith) is.before in
      let seg = come_at_time z u _ l in
      let rise = places_rise e.items u d.at made.rising (omega linear) in
      let amid : m < e.all = grind (arith, place_most) in
      let most = place_most e.items d.at made.rising in
      let here = cases_lt m (count_at e d.at) in
      let s = amid_type u m d.before is.fits_before (omega arith) refl amid is.before in
      let t = amid_type d.at m d.after is.fits (omega arith) in
      (m, grind linear, let a = come_by m d.at in let r = come_by m u in grind linear)

  -- how many have come at an entry's second, and just before it
  count_then : (k : ℕ) → k < length e.items → count_at e (time_at e k) ≡ k + 1
  count_then k h = rw (← begin_next _ k any h) (place_begin _ _ made.rising (omega arith) (omega arith))

  count_before : (k : ℕ) → k < length e.items → count_at e (time_at e k -ℤ pos 1) ≡ k
  count_before k h = let same : suc k ≡ k + 1 = omega arith in rw (← begin_next _ k any h, ← same) (place_before _ k made.rising h)

  -- the change that an entry makes
  entry_change : (k : ℕ) (c : Change) → k < length e.items → k + 1 < e.all → IsEntryChange z.types e.items k (Some c) → IsChange (TypeAt z) c
  entry_change k c h more (is, fits, not_least, before, after) =
      let (x, l) = made.leap_time k h in
      let l2 = rw (← is) at l in
      let (y, m) = earlier_time (c.at -ℤ pos 1) _ x (omega linear) l2 in
      let old = type_amid (c.at -ℤ pos 1) y k c.before (omega linear) m (rw is (count_before k h)) (omega arith) before in
      let new = type_amid c.at x _ c.after fits l2 (rw is (count_then k h)) more after in grind linear

  -- before an entry comes some transition has not
  in_table : (k : ℕ) (c : Change) → k < length e.items → IsChange (TypeAt z) c → c.at ≡ time_at e k → segment_of z (c.at -ℤ pos 1) < length z.transitions
  in_table k c h is at =
      let n : count_at e (c.at -ℤ pos 1) ≡ k = rw at (count_before k h) in
      grind (linear, come_at_time, segment_most)

  -- ---- the nearest change of the table
  -- a change at an entry is the nearest one if no change at an entry ahead precedes it
  found : (w : Bool) (s : ℤ) (k : ℕ) (c : Change) → k < length e.items → IsChange (TypeAt z) c → c.at ≡ time_at e k → IsAhead w s c.at
      → ((j : ℕ) (d : Change) → j < length e.items → IsChange (TypeAt z) d → time_at e j ≡ d.at → IsAhead w s d.at → Precedes w c.at d.at)
      → IsNearestChange w (TypeAt z) (IsInTable z (IsAhead w s)) c
  found w s k c h is at ahead near = grind (linear, in_table, table_change)

  pub with_entry : (k : ℕ) (r : Option Change) → k < length e.items → k + 1 < e.all → IsEntryChange z.types e.items k r → IsChangeWith z e k r
  with_entry k r h l m = grind (linear, entry_change)

  -- the entries ahead of the second
  ahead_by : (w : Bool) (s : ℤ) (j : ℕ) → j < length e.items
      → IsAhead w s (time_at e j) ↔ IsLeftAt w (length e.items) (count_ahead w (length e.items) (count_at e s)) j
  ahead_by w s j h = let r = come_by j s h in grind linear

  left_less : (w : Bool) (s : ℤ) (left : ℕ) → AreLeft z e w s left → IsAheadChange z e w left None → AreLeft z e w s (left - 1)
  left_less true s left l none = grind linear
  left_less false s left l none = grind linear

  found_with : (w : Bool) (s : ℤ) (left : ℕ) (c : Change) → AreLeft z e w s left → IsAheadChange z e w left (Some c)
      → IsNearestChange w (TypeAt z) (IsInTable z (IsAhead w s)) c
  found_with w s zero c l one = grind arith
  found_with true s (suc n) c l one =
      let (change, at) = (one.1 (omega arith)).change in let first = ahead_by true s (length e.items - suc n) (omega arith) in
      found true s _ c (omega arith) change at (grind linear) (grind (linear, not_later))
  found_with false s (suc n) c l one =
      let (change, at) = (one.1 (omega arith)).change in let most = place_most e.items s made.rising in let first = ahead_by false s n (omega arith) in
      found false s _ c (omega arith) change at (grind linear) (grind (linear, not_later))

  -- no more than two entries are asked
  few_left : (w : Bool) (s : ℤ) (left : ℕ) → SFits w64 s → left ≡ count_ahead w (length e.items) (count_at e s) → IsAheadChange z e w left None
      → IsAheadChange z e w (left - 1) None → AreLeft z e w s (left - 1 - 1) → HasNoChange (TypeAt z) (IsInTable z (IsAhead w s))
  few_left w s left fits is one two l d change inside =
      let (k, below, time) = table_change d change inside.table in
      let before = l.each k d below change time inside.inside in
      let most = place_most e.items s made.rising in
      let first = ahead_by w s (length e.items - left) in
      let rise = not_later e.items k (left - 2) any made.rising in grind linear

  pub first_found : (w : Bool) (s : ℤ) (left : ℕ) (c : Change) → left ≡ count_ahead w (length e.items) (count_at e s)
      → IsAheadChange z e w left (Some c) → IsNearestChange w (TypeAt z) (IsInTable z (IsAhead w s)) c
  first_found w s left c is one = found_with w s left c (grind (linear, ahead_by)) one

  pub second_found : (w : Bool) (s : ℤ) (left : ℕ) (r : Option Change) → SFits w64 s → left ≡ count_ahead w (length e.items) (count_at e s)
      → IsAheadChange z e w left None → IsAheadChange z e w (left - 1) r → IsNearest w (TypeAt z) (IsInTable z (IsAhead w s)) r
  second_found w s left (Some c) fits is none two = found_with w s (left - 1) c (grind (linear, left_less, ahead_by)) two
  second_found w s left None fits is none two =
      few_left w s left fits is none two (left_less w s (left - 1) (grind (linear, left_less, ahead_by)) two)

-- ---- between two entries
pub index_below : (z : Zone) (e : Entries) (k : ℕ) → IsValid z → AreEntries z e → k ≤ length e.items → index_of e.items k < length z.types
index_below z e k valid made h = grind (linear, index_within)

-- the second of which they are asked is one of them
pub inside_between : (z : Zone) (e : Entries) (u : ℤ) (b : Between) → AreEntries z e → IsBetween e u b → SFits w64 u → (b.from ≤ℤ u) × (u <ℤ b.until)
inside_between z e u b made h fits =
    let c = come_by_time e.items u h.place any made.rising h.some in
    grind (linear, come_from)

pub stretch_between : (z : Zone) (e : Entries) (u v : ℤ) (b : Between) (t : LocalType) → IsValid z → AreEntries z e → IsBetween e u b
    → SFits w64 b.from → SFits w64 b.until
    → HasType z b.index t → b.from ≤ℤ v → v <ℤ b.until → TypeAt z v t
stretch_between z e u v b t valid made h low high has from until =
    let c = come_by_time e.items v h.place any made.rising h.some in
    let (x, l) = made.leap_time h.place h.some in
    let (y, m) = earlier_time z e valid made v _ x (omega linear) l in
    type_amid z e valid made v y h.place t (omega linear) m (grind (linear, come_from)) (omega arith) (grind (linear, come_from))

pub span_between : (z : Zone) (e : Entries) (u : ℤ) (b : Between) (t : LocalType) → IsValid z → AreEntries z e → IsBetween e u b → IsTrue b.is_span
    → SFits w64 u → SFits w64 b.from → SFits w64 b.until
    → HasType z b.index t → IsSpanAt (TypeAt z) u (record { local_time_type = t; from = Some b.from; until = Some b.until })
span_between z e u b t valid made h is fits low high has =
    let (some, not_least, more) = h.span is in
    let k = h.place in
    let (since, before) = inside_between z e u b made h fits in
    let (r, has_r) = inside_listed _ _ (index_below z e (k - 1) valid made (omega arith)) in
    let (s, has_s) = inside_listed _ _ (index_below z e (k + 1) valid made (omega arith)) in
    record {
      in_force_then = stretch_between z e u u b t valid made h low high has since before;
      inside = grind linear;
      span = record {
        some = grind linear;
        each = λ v i. stretch_between z e u v b t valid made h low high has i.since i.until;
        begins = out_before z _ (entry_change z e valid made (k - 1) (record { at = b.from; before = r; after = t }) (omega arith) (omega arith)
            (grind (linear, begin_at)));
        ends = out_from z _ (entry_change z e valid made k (record { at = b.until; before = t; after = s }) h.some more (grind linear));
      };
    }

-- where a segment begins, and which have begun
pub ruleset begins = (begin_at, come_from, place_most)
