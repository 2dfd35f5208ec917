-- Answers to a column's times: by a lookup, and by what is kept of a stretch.
use Rattle.zoned_ffi.specs.Columns.{IsInstantOf, IsInstantTaken, IsRowNumber, second_holding}
use Rattle.zoned_ffi.specs.Steps.KeptTimes.{Ends, IsIn, IsKept, IsKeptOf, LieWithin, IsStop, stretch_at}
use Rattle.zoned_ffi.specs.{Units.{IsCounted, IsLocal, IsWithout, uncounted}, declared.choice.Missing.{Missing}}
use Rattle.zoned_ffi.specs.declared.column.{Question.{Question}, Stop.{Stop}, Way.TheVariants.{ToInstants}}
use Rattle.zoned_ffi.{specs.declared.{column.Way.TheVariants.{ToLocal}, resolved.Taken.TheVariants.{GapEnd, InForce, Shifted}}, proofs.Words.{All-contains}}
use Rattle.zoned_ffi.proofs.Words.{AreKeptTimes, Choice, Fits64, IsGreatest, IsInRange, IsLeast, IsNoInstant, IsOffsetStretch, IsShownOnce, IsTakenAs, Kept}
use Rattle.zoned_ffi.proofs.Words.{List, LocalType, MatchOption, None, OffsetStretch, Option, Shows, Some, Taken, TypeAt, Unit, Zone, ap, arith, first_second}
use Rattle.zoned_ffi.proofs.Words.{floor_div, floors, get_or, inl, ints, neg_ℤ, offsets, per_second, pos, refl, subst, taken_instant, ℕ, ℤ, ◌*ℤ◌, ◌+ℤ◌, ◌+◌}
use Rattle.zoned_ffi.proofs.{Words.{◌-ℤ◌, ◌<ℤ◌, ◌≡◌, ◌≤ℤ◌, drop, ◌∙◌, ◌≤◌}, Slices.{same_after}, Resolving.{none_is, taken_once}}
use Rattle.std.proofs.{Common.{bit_or, ◌<◌}, lemmas.List.{get_or-replicate}}
use Rattle.std.specs.Prelude.{replicate}
use lib.Bits.{and_le_l, and_le_r, or_add_and}
use Rattle.tz_info.proofs.{ExtremeLaws.{at_least_least, at_most_greatest}, ForCallers.{type_once}}

abbrev pub least : ℤ
least = neg_ℤ (pos 9_223_372_036_854_775_807)

abbrev pub greatest : ℤ
greatest = pos 9_223_372_036_854_775_807

-- the times between two bounds that can be counted, also with `add` more
pub lie_within : (from until low high add : ℤ) (k : Kept) → k.low ≡ low → pos k.length ≡ high -ℤ low → k.add ≡ add → from ≤ℤ low → least ≤ℤ low
    → (least -ℤ add) ≤ℤ low → high ≤ℤ until → high ≤ℤ greatest → high ≤ℤ (greatest -ℤ add) → LieWithin from until add k
lie_within from until low high add k begin length same a b d e f g =
    let end : (k.low +ℤ pos k.length) ≡ high = omega (arith, ints) in
    record {
      same = same;
      ends = rw end f;
      each = λ x (since, before).
          (omega (arith, ints), omega (arith, ints), (λ none. omega (arith, ints)), (omega (arith, ints), λ none. omega (arith, ints)));
    }

-- one stretch at each place
pub same_at : (q : Question) (low add : ℤ) (length i : ℕ) → i < 258 → IsKept q (record { low = low; length = length; add = add })
    → IsKept q (stretch_at (record { lows = replicate 258 low; lengths = replicate 258 length; adds = replicate 258 add }) i)
same_at q low add length i below kept =
    rw (get_or-replicate 258 i low (pos 0) below, get_or-replicate 258 i length 0 below, get_or-replicate 258 i add (pos 0) below) kept

-- the bits that are set in one of two numbers make as much as each
pub or_ge_l : (a b : ℕ) → a ≤ bit_or a b
or_ge_l a b = let sum = or_add_and a b in let less = and_le_r a b in omega arith

pub or_ge_r : (a b : ℕ) → b ≤ bit_or a b
or_ge_r a b = let sum = or_add_and a b in let less = and_le_l a b in omega arith

-- the stretch has one row more
pub within_more : (times : List ℤ) (from row : ℕ) (k : Kept) → AreKeptTimes times from row k
    → IsIn k (get_or times row (pos 0)) → AreKeptTimes times from (row + 1) k
within_more times from row k before this i since below = grind arith

-- a local time so far inside a stretch that by each offset of the zone its second lies in it: only the second by the stretch's offset shows it
pub once_shown : (z : Zone) (s : OffsetStretch) (low high local : ℤ) → IsOffsetStretch z s → Fits64 s.from → Fits64 s.until
    → IsLeast (offsets z.types z.rule) low → IsGreatest (offsets z.types z.rule) high → (s.from +ℤ high) ≤ℤ local → local <ℤ (s.until +ℤ low)
    → (t : LocalType) × IsShownOnce (Shows (TypeAt z) local) t × (s.offset ≡ t.offset)
once_shown z s low high local stretch f g is_low is_high since before =
    let inside : (o : ℤ) → low ≤ℤ o → o ≤ℤ high → (t : LocalType) × TypeAt z (local -ℤ o) t × (s.offset ≡ t.offset) =
    λ o a b. stretch (local -ℤ o) (omega (arith, ints)) (omega (arith, ints)) in
    let order : low ≤ℤ high = All-contains (λ x. low ≤ℤ x) (offsets z.types z.rule) high is_low.fewest is_high.among in
    let some = inside high order (omega (arith, ints)) in
    let least_here = at_least_least z (local -ℤ high) low some.0 is_low some.1 in
    let most_here = at_most_greatest z (local -ℤ high) high some.0 is_high some.1 in
    let own = inside s.offset (omega (arith, ints)) (omega (arith, ints)) in let own_is = own.2 in
    let shown : Shows (TypeAt z) local (local -ℤ s.offset) own.0 =
    record { fits = omega (arith, ints); type = own.1; shown = omega (arith, ints) } in
    let only : (u : ℤ) (b : LocalType) → Shows (TypeAt z) local u b → u ≡ local -ℤ s.offset = λ u b v.
    let there = inside b.offset (at_least_least z u low b is_low v.type) (at_most_greatest z u high b is_high v.type) in
    let place : local -ℤ b.offset ≡ u = omega (arith, ints) in
    let same = ap (λ (t : LocalType). t.offset) (type_once z u b there.0 v.type (subst (λ w. TypeAt z w there.0) place there.1)) in omega (arith, ints) in
    (own.0, record { second = local -ℤ s.offset; shown = shown; only = only }, own_is)

-- a zone's answers to times that are counts of a unit
module _ (z : Zone) (unit : Unit) where
  -- the second that an instant lies in, if the instant comes with a second or after it
  floor_low : (x u : ℤ) → (u *ℤ pos (per_second unit)) ≤ℤ x → u ≤ℤ floor_div x (per_second unit)
  floor_low x u h = grind (arith, ints, floors)

  -- of one that comes before a second
  floor_high : (x u : ℤ) → x <ℤ (u *ℤ pos (per_second unit)) → floor_div x (per_second unit) <ℤ u
  floor_high x u h = grind (arith, ints, floors)

  -- what a lookup found
  pub looked_up : (x counts : ℤ) (t : LocalType) (r : Option ℤ) → TypeAt z (floor_div x (per_second unit)) t
      → counts ≡ t.offset *ℤ pos (per_second unit)
      → MatchOption r (¬ (IsCounted (x +ℤ counts))) (λ sum. (sum ≡ x +ℤ counts) × IsCounted sum)
      → MatchOption r (IsWithout z unit x) (λ local. IsLocal z unit x local)
  looked_up x counts t None in_force are none = uncounted t in_force (rw are at none)
  looked_up x counts t (Some y) in_force are (is, counted) = record { type = t; in_force = in_force; sum = cc; counted = counted }

  -- instants of a stretch, by the counts of its bounds
  pub instants_kept : (s : OffsetStretch) (from until add : ℤ) (k : Kept) → IsOffsetStretch z s
      → from ≡ s.from *ℤ pos (per_second unit) → until ≡ s.until *ℤ pos (per_second unit) → add ≡ s.offset *ℤ pos (per_second unit)
      → LieWithin from until add k → IsKeptOf z unit ToLocal k
  instants_kept s from until add k stretch a b d within = record {
    ends = within.ends;
    each = λ x is.
        let at = within.each x is in
        let found = stretch (floor_div x (per_second unit)) (grind (arith, ints, floors)) (grind (arith, ints, floors)) in
        grind arith;
  }

  -- and to local times, by a choice
  module _ (choice : Choice) where
    -- such local times, by the counts of the bounds
    pub local_times_kept : (m : Missing) (s : OffsetStretch) (low high p q r t f e from until add : ℤ) (k : Kept) → IsOffsetStretch z s
        → Fits64 s.from → Fits64 s.until → IsLeast (offsets z.types z.rule) low → IsGreatest (offsets z.types z.rule) high
        → p ≡ s.from *ℤ pos (per_second unit) → q ≡ high *ℤ pos (per_second unit) → r ≡ s.until *ℤ pos (per_second unit) → t ≡ low *ℤ pos (per_second unit)
        → f ≡ first_second *ℤ pos (per_second unit) → e ≡ pos 8_210_266_876_800 *ℤ pos (per_second unit) → add ≡ neg_ℤ (s.offset *ℤ pos (per_second unit))
        → (p +ℤ q) ≤ℤ from → f ≤ℤ from → until ≤ℤ (r +ℤ t) → until ≤ℤ e → LieWithin from until add k → IsKeptOf z unit (ToInstants choice m) k
    local_times_kept m s low high p q r t f e from until add k stretch fits_from fits_until is_low is_high ep eq er et ef ee ea a b c d within =
        record {
          ends = within.ends;
          each = λ x is.
              let at = within.each x is in
              let local = floor_div x (per_second unit) in
              let above = floor_low x (s.from +ℤ high) (grind (arith, ints)) in
              let below = floor_high x (s.until +ℤ low) (grind (arith, ints)) in
              let found = once_shown z s low high local stretch fits_from fits_until is_low is_high above below in
              let first = floor_low x first_second (grind (arith, ints)) in
              let end = floor_high x (pos 8_210_266_876_800) (grind (arith, ints)) in
              let counted : IsCounted (x +ℤ k.add) = rw within.same at.3 in
              let less : (x +ℤ neg_ℤ (s.offset *ℤ pos (per_second unit))) ≡ x -ℤ (s.offset *ℤ pos (per_second unit)) = omega (arith, ints) in
              let taken = IsInstantTaken.by_offset found.0 (taken_once z local choice found.0 found.1) cc in
              (counted, at.2, inl (record { in_range = (first, omega (arith, ints)); taken = taken; counted = counted }));
        }

    -- the instant by what is taken
    taken_gives : (local : ℤ) (taken : Taken) → IsTakenAs z (second_holding unit local) choice taken
        → IsInstantTaken z unit choice local (taken_instant unit local taken)
    taken_gives local (InForce offset) ((t, taken, is), there) = IsInstantTaken.by_offset t taken (rw is)
    taken_gives local (Shifted offset) (t, taken, is) = IsInstantTaken.by_offset t taken (rw is)
    taken_gives local (GapEnd at offset) (after, end, is) = IsInstantTaken.by_gap_end at after end refl

    -- it is the local time's, if it can be counted
    pub instant_told : (local : ℤ) (taken : Taken) (r : Option ℤ) → IsInRange (second_holding unit local)
        → IsTakenAs z (second_holding unit local) choice taken
        → MatchOption r (¬ (IsCounted (taken_instant unit local taken))) (λ i. (i ≡ taken_instant unit local taken) × IsCounted i)
        → MatchOption r (IsNoInstant z unit choice local 23) (IsInstantOf z unit choice local)
    instant_told local taken None in_range is none =
        IsNoInstant.uncounted (taken_instant unit local taken) in_range (taken_gives local taken is) none
    instant_told local taken (Some i) in_range is found =
        record { in_range = in_range; taken = rw found.0 (taken_gives local taken is); counted = found.1 }

    pub row_number : (local : ℤ) (n : ℕ) → IsNoInstant z unit choice local n → IsRowNumber n
    row_number local n none = grind (arith, none_is)

-- a column that is as it was after a place stops as well for one that was the same there
pub stop_after : (q : Question) (times old mid new : List ℤ) (s : Stop) (from : ℕ) → IsStop q times mid new s → from ≤ s.row → drop from mid ≡ drop from old
    → IsStop q times old new s
stop_after q times old mid new s from stop late same = record {
  within = stop.within;
  before = stop.before;
  time = stop.time;
  without = stop.without;
  after = stop.after ∙ same_after mid old from s.row late same;
}

pub stop_if_any : (q : Question) (times old mid new : List ℤ) (Whole : Type 0) (from : ℕ) (r : Option Stop)
    → MatchOption r Whole (λ s. (from ≤ s.row) × IsStop q times mid new s) → drop from mid ≡ drop from old
    → MatchOption r Whole (λ s. IsStop q times old new s)
stop_if_any q times old mid new Whole from None whole same = whole
stop_if_any q times old mid new Whole from (Some s) (late, stop) same = stop_after q times old mid new s from stop late same
