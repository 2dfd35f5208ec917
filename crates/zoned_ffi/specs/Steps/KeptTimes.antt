-- What a column keeps of stretches of times, and what is asked about its times.
use Rattle.std.specs.Prelude.{ℕ, ℤ, ◌≡◌, ◌≢◌, ◌+ℤ◌, ◌≤ℤ◌, ◌<ℤ◌, ◌≤◌, ◌<◌, pos, List, slice_index_or, slice_set}
use Rattle.tz_info.specs.Zones.{Zone}
use Rattle.zoned_ffi.specs.{Columns.{AreAnswered, IsAnswered, IsAnsweredOrNone, IsFirstWithout, IsNotAnswered}, Units.{IsCounted, no_time}}
use Rattle.zoned_ffi.specs.declared.{column.{Question.{Question}, Stop.{Stop}, Way.{Way}, kept.Kept.{Kept}, stretches.Stretches.{Stretches}}, unit.Unit.{Unit}}

-- the answer to a time by a question, and the error if it has no answer
abbrev pub IsAnsweredBy : Question → ℤ → ℤ → Type 0
IsAnsweredBy q x y = IsAnswered q.zone.now q.unit q.way x y

abbrev pub IsNotAnsweredBy : Question → ℤ → ℕ → Type 0
IsNotAnsweredBy q x n = IsNotAnswered q.zone.now q.unit q.way x n

-- what is written of a time, and why nothing is
abbrev pub IsWritten : Question → ℤ → ℤ → Type 0
IsWritten q x y = IsAnsweredOrNone q.zone.now q.unit q.way x y

abbrev pub IsNotWritten : Question → ℤ → ℕ → Type 0
IsNotWritten q x n = (x ≢ no_time) × IsNotAnsweredBy q x n

-- what is written of each time, and the first of which nothing is
abbrev pub AreWritten : Question → List ℤ → List ℤ → Type 0
AreWritten q times answers = AreAnswered q.zone.now q.unit q.way times answers

abbrev pub IsStop : Question → List ℤ → List ℤ → List ℤ → Stop → Type 0
IsStop q times old answers s = IsFirstWithout q.zone.now q.unit q.way times old answers s.row s.number

-- the time is one of a stretch that is kept
abbrev pub IsIn : Kept → ℤ → Type 0
IsIn k x = (k.low ≤ℤ x) × (x <ℤ (k.low +ℤ pos k.length))

-- the first time after them is one of 64 bits
abbrev pub Ends : Kept → Type 0
Ends k = (k.low +ℤ pos k.length) ≤ℤ pos 9_223_372_036_854_775_807

-- each of them is a time, and its answer is `add` more
pub record IsKeptOf (z : Zone) (unit : Unit) (way : Way) (k : Kept) : Type 0 where
  pub ends : Ends k
  pub each : (x : ℤ) → IsIn k x → IsCounted (x +ℤ k.add) × (x ≢ no_time) × IsAnswered z unit way x (x +ℤ k.add)

abbrev pub IsKept : Question → Kept → Type 0
IsKept q k = IsKeptOf q.zone.now q.unit q.way k

-- the stretch at a place
abbrev pub stretch_at : Stretches → ℕ → Kept
stretch_at s i = record {
  low = slice_index_or s.lows i (pos 0);
  length = slice_index_or s.lengths i 0;
  add = slice_index_or s.adds i (pos 0);
}

-- the stretches, with that one at the place
abbrev pub with_stretch : Stretches → ℕ → Kept → Stretches
with_stretch s i k = record {
  lows = slice_set s.lows i k.low;
  lengths = slice_set s.lengths i k.length;
  adds = slice_set s.adds i k.add;
}

abbrev pub AreKept : Question → Stretches → Type 0
AreKept q s = (i : ℕ) → i < 258 → IsKept q (stretch_at s i)

-- the rows from `from` on and before `to` are such times
abbrev pub AreKeptTimes : List ℤ → ℕ → ℕ → Kept → Type 0
AreKeptTimes times from to k = (i : ℕ) → from ≤ i → i < to → IsIn k (slice_index_or times i (pos 0))

-- such times come from `from` on, and before `until`, and can be counted, also with `add` more
pub record LieWithin (from until add : ℤ) (k : Kept) : Type 0 where
  pub same : k.add ≡ add
  pub ends : Ends k
  pub each : (x : ℤ) → IsIn k x → (from ≤ℤ x) × (x <ℤ until) × (x ≢ no_time) × IsCounted (x +ℤ add)
