-- Columns: instants as local times, and local times as instants, counted in a unit.
use Rattle.std.specs.Prelude.{ℕ, ℤ, ◌≡◌, ◌≢◌, ◌⊎◌, ◌-ℤ◌, ◌*ℤ◌, ◌<◌, ◌≤◌, ◌==◌, pos, true, if◌then◌else◌, List, drop, length, take, slice_index_or}
use Rattle.std.specs.List.{AllZip}
use Rattle.gregorian.specs.Year.{floor_div}
use Rattle.naive_base.specs.Range.{IsInRange}
use Rattle.tz_base.specs.LocalTypes.{LocalType}
use Rattle.tz_info.specs.Zones.{Zone}
use Rattle.zoned_ffi.specs.{Resolved.{IsNoneTaken, IsTakenGapEnd, IsTakenType}, WholeSeconds.{IsFound, IsNotFound}}
use Rattle.zoned_ffi.specs.Units.{IsCounted, IsLocal, IsWithout, no_time, per_second}
use Rattle.zoned_ffi.specs.declared.{choice.{Choice.{Choice}, Missing.{Missing}}, column.Way.{Way}, unit.Unit.{Unit}}
use Rattle.zoned_ffi.specs.declared.whole_second.WholeSecond.{WholeSecond}
use Rattle.zoned_ffi.specs.declared.column.Way.TheVariants as ways

-- the second that a time lies in
abbrev pub second_holding : Unit → ℤ → ℤ
second_holding unit x = floor_div x (per_second unit)

-- the choice takes the instant for the local time: by the offset of a type, or the second at which the gap ends
pub data IsInstantTaken (z : Zone) (unit : Unit) (choice : Choice) (local instant : ℤ) : Type 0 where
  by_offset : (t : LocalType) → IsTakenType z (second_holding unit local) choice t → instant ≡ local -ℤ (t.offset *ℤ pos (per_second unit))
      → IsInstantTaken z unit choice local instant
  by_gap_end : (at : ℤ) (after : LocalType) → IsTakenGapEnd z (second_holding unit local) choice at after → instant ≡ at *ℤ pos (per_second unit)
      → IsInstantTaken z unit choice local instant

-- the instant of the local time under the choice: the second of the local time is in the calendar's range, and the instant can be
-- counted
pub record IsInstantOf (z : Zone) (unit : Unit) (choice : Choice) (local instant : ℤ) : Type 0 where
  pub in_range : IsInRange (second_holding unit local)
  pub taken : IsInstantTaken z unit choice local instant
  pub counted : IsCounted instant

-- why the local time has none, by its number
pub data IsNoInstant (z : Zone) (unit : Unit) (choice : Choice) (local : ℤ) : ℕ → Type 0 where
  outside : ¬ (IsInRange (second_holding unit local)) → IsNoInstant z unit choice local 23
  refused : (n : ℕ) → IsInRange (second_holding unit local) → IsNoneTaken z (second_holding unit local) choice n → IsNoInstant z unit choice local n
  uncounted : (instant : ℤ) → IsInRange (second_holding unit local) → IsInstantTaken z unit choice local instant → ¬ (IsCounted instant)
      → IsNoInstant z unit choice local 23

-- the choice of a column: 4 for gaps and 3 for folds reject local times as 0 does, but what is rejected becomes no time
abbrev pub gap_asked : ℕ → ℕ
gap_asked gap = if gap == 4 then 0 else gap

abbrev pub fold_asked : ℕ → ℕ
fold_asked fold = if fold == 3 then 0 else fold

abbrev pub missing_of : ℕ → ℕ → Missing
missing_of gap fold = record { in_gaps = gap == 4; in_folds = fold == 3 }

-- a local time that is rejected with that number, in a gap 21 and in a fold 22, becomes no time
abbrev pub IsMissing : Missing → ℕ → Type 0
IsMissing m n = ((n ≡ 21) × (m.in_gaps ≡ true)) ⊎ ((n ≡ 22) × (m.in_folds ≡ true))

-- it has no instant for such a reason
abbrev pub IsMissingInstant : Zone → Unit → Choice → Missing → ℤ → Type 0
IsMissingInstant z unit choice m local = (n : ℕ) × IsNoInstant z unit choice local n × IsMissing m n

-- the whole second that is found for an instant, counted in the unit. The last second before the instant is the one that the unit before
-- it lies in
pub record IsWholeSecondOf (z : Zone) (unit : Unit) (sought : WholeSecond) (instant time : ℤ) : Type 0 where
  pub second : ℤ
  pub found : IsFound z sought (second_holding unit instant) (second_holding unit (instant -ℤ pos 1)) second
  pub counts : time ≡ second *ℤ pos (per_second unit)
  pub counted : IsCounted time

-- the error number of an instant that has no such second
pub data IsNoWholeSecondOf (z : Zone) (unit : Unit) (sought : WholeSecond) (instant : ℤ) : ℕ → Type 0 where
  not_found : (n : ℕ) → IsNotFound z sought (second_holding unit instant) (second_holding unit (instant -ℤ pos 1)) n
      → IsNoWholeSecondOf z unit sought instant n
  uncounted : (second : ℤ) → IsFound z sought (second_holding unit instant) (second_holding unit (instant -ℤ pos 1)) second
      → ¬ (IsCounted (second *ℤ pos (per_second unit))) → IsNoWholeSecondOf z unit sought instant 23

-- the answer to a time of a column: the local time of an instant, the instant of a local time or no time, or a whole second for an
-- instant
abbrev pub IsAnswered : Zone → Unit → Way → ℤ → ℤ → Type 0
IsAnswered z unit ways.ToLocal x y = IsLocal z unit x y
IsAnswered z unit (ways.ToInstants choice m) x y = IsInstantOf z unit choice x y ⊎ (IsMissingInstant z unit choice m x × (y ≡ no_time))
IsAnswered z unit (ways.ToWholeSeconds sought) x y = IsWholeSecondOf z unit sought x y

-- the number of the error that a time without an answer gets
abbrev pub IsNotAnswered : Zone → Unit → Way → ℤ → ℕ → Type 0
IsNotAnswered z unit ways.ToLocal x n = (n ≡ 37) × IsWithout z unit x
IsNotAnswered z unit (ways.ToInstants choice m) x n = IsNoInstant z unit choice x n × ¬ (IsMissing m n)
IsNotAnswered z unit (ways.ToWholeSeconds sought) x n = IsNoWholeSecondOf z unit sought x n

-- what is written: no time stays none
abbrev pub IsAnsweredOrNone : Zone → Unit → Way → ℤ → ℤ → Type 0
IsAnsweredOrNone z unit way x y = ((x ≡ no_time) × (y ≡ no_time)) ⊎ ((x ≢ no_time) × IsAnswered z unit way x y)

-- one answer for each time, in the same order
abbrev pub AreAnswered : Zone → Unit → Way → List ℤ → List ℤ → Type 0
AreAnswered z unit way times answers = AllZip (IsAnsweredOrNone z unit way) times answers

-- the row at that place is the first without an answer, for the reason of that number: those before it are written, and it and those
-- after it are as they were
pub record IsFirstWithout (z : Zone) (unit : Unit) (way : Way) (times old answers : List ℤ) (row n : ℕ) : Type 0 where
  pub within : row < length times
  pub before : AreAnswered z unit way (take row times) (take row answers)
  pub time : slice_index_or times row (pos 0) ≢ no_time
  pub without : IsNotAnswered z unit way (slice_index_or times row (pos 0)) n
  pub after : drop row answers ≡ drop row old

-- the numbers of a local time without an instant: in a gap 21, in a fold 22, out of range 23
abbrev pub IsRowNumber : ℕ → Type 0
IsRowNumber n = (21 ≤ n) × (n ≤ 23)

-- the numbers of an instant for which no whole second is found: out of range 23, of a zone with an offset of a day or more 40
abbrev pub IsSoughtNumber : ℕ → Type 0
IsSoughtNumber n = (n ≡ 23) ⊎ (n ≡ 40)
