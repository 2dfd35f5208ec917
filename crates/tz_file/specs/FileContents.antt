-- What the parts of the last data block say (RFC 8536 section 3.2).
use Rattle.std.specs.Prelude.{ℕ, zero, suc, ℤ, pos, neg_ℤ, ◌<ℤ◌, ◌≡◌, ◌≢◌, ◌==◌, ◌+◌, ◌*◌, int_lt, not, Bool, true, false, if◌then◌else◌, List, []}
use Rattle.std.specs.Prelude.{◌∷◌, ◌++◌, length, slice_index, take, drop, Option, Some, None}
use Rattle.std.specs.Int.{Width, w32, w64, from_be_bytes, cast_signed}
use Rattle.tz_base.specs.{LocalTypes.{LocalType, expected_of_type}, Names.{IsNameOrNone}, Tests.{Test}}
use Rattle.tz_base.specs.Steps.{Comparisons.{both, equal, less, never_both}, TextTests.{name_or_none_test}}
use Rattle.tz_base.specs.Grammar.{Grammar, Nothing, Marked, Run, Exact, Refused, Check, Here, At, Inside, Each, ◌>>=◌, ◌>>◌}
use Rattle.tz_file.specs.FilePieces.{FilePieces, from_types, from_ut_local}
use Rattle.tz_base.specs.declared.{transition.Transition.{Transition}, leap_second.LeapSecond.{LeapSecond}}
use Rattle.tz_base.specs.Grammar as grammar
use Rattle.tz_base.specs.Refusals as refused
use Rattle.tz_base.specs.declared.error.Expected.TheVariants as expected

-- a number in two's complement, the highest byte first
unfoldable pub signed : Width → List ℕ → ℤ
signed w bytes = cast_signed w (from_be_bytes w bytes)

-- a time of four or eight bytes
abbrev pub file_time : ℕ → List ℕ → ℤ
file_time size bytes = if size == 4 then signed w32 bytes else signed w64 bytes

-- of records of one size, laid end to end, that one
abbrev pub record_at : ℕ → List ℕ → ℕ → List ℕ
record_at size part k = take size (drop (k * size) part)

-- the values of the numbers below n, in order
abbrev pub values_below : {X : Type 0} → ℕ → (ℕ → X) → List X
values_below zero f = []
values_below (suc n) f = values_below n f ++ f n ∷ []

-- ---- transitions and leap seconds
-- a transition's time is in one part, and in another the byte of its type index
abbrev pub time_at : FilePieces → ℕ → ℤ
time_at p k = file_time p.time_size (record_at p.time_size p.parts.times k)

abbrev pub transition_at : FilePieces → ℕ → Transition
transition_at p k = record { unix_leap_time = time_at p k; type_index = slice_index p.parts.type_indexes k }

-- a leap second: a time, and a correction of four bytes
abbrev pub leap_second_of : ℕ → List ℕ → LeapSecond
leap_second_of time_size bytes = record { unix_leap_time = file_time time_size (take time_size bytes); correction = signed w32 (drop time_size bytes) }

abbrev pub leap_at : FilePieces → ℕ → LeapSecond
leap_at p k = leap_second_of p.time_size (record_at (p.time_size + 4) p.parts.leap_seconds k)

-- ---- local time types
-- whether it is daylight saving time
unfoldable pub mark : Grammar Bool
mark = Marked 0 (Nothing false) (Marked 1 (Nothing true) (Refused (refused.InvalidTzFile expected.ZeroOrOneAsIsDst)))

abbrev pub is_not_zero : ℕ → Bool
is_not_zero byte = not (byte == 0)

-- at its place in the designations: the text up to the next 0 byte
unfoldable pub designation : Grammar (List ℕ)
designation = do
  grammar.Some (refused.InvalidTzFile expected.NameWithinDesignations)
  text ← Run is_not_zero
  Marked 0 (Nothing text) (Refused (refused.InvalidTzFile expected.ZeroByteAfterName))

-- an empty text is no name
abbrev pub designation_of : List ℕ → Option (List ℕ)
designation_of [] = None
designation_of (b ∷ bs) = Some (b ∷ bs)

abbrev pub least_offset : ℤ
least_offset = neg_ℤ (pos 2_147_483_648)

-- an offset of 32 bits but the least one, and a name or none
abbrev pub CanBeType : LocalType → Type 0
CanBeType t = (least_offset <ℤ t.offset) × IsNameOrNone t.name

abbrev pub type_test : (t : LocalType) → Test (CanBeType t)
type_test t = both (less least_offset t.offset) (name_or_none_test t.name)

unfoldable pub typed : List ℕ → List ℕ → LocalType → Grammar LocalType
typed at_offset at_place t = At (if int_lt least_offset t.offset then at_place else at_offset)
    (Check (CanBeType t) (type_test t) (refused.LocalTimeType (expected_of_type t.offset t.name)) t)

-- a type's record: four bytes of the offset, the DST flag, and where the designation begins. These are judged first; then the
-- offset, and last the name, which is rejected where it is named
unfoldable pub local_type : List ℕ → Grammar LocalType
local_type designations = Here λ at_offset. do
  offset ← Exact 4
  dst ← mark
  Here λ at_place. do
    place ← Exact 1
    text ← At at_place (Inside (drop (slice_index place 0) designations) [] designation)
    typed at_offset at_place (record { offset = signed w32 offset; dst = dst; name = designation_of text })

unfoldable pub type_at : FilePieces → ℕ → Grammar LocalType
type_at p k = Inside (record_at 6 p.parts.types k) (drop (k * 6) (from_types p)) (local_type p.parts.designations)

-- ---- indicators
-- time that is given in UT is also given in standard time; a missing indicator is 0
abbrev pub PairAgrees : List ℕ → List ℕ → ℕ → Type 0
PairAgrees standard_wall ut_local k = slice_index standard_wall k ≡ 0 → slice_index ut_local k ≢ 1

abbrev pub pair_test : (s u : List ℕ) (k : ℕ) → Test (PairAgrees s u k)
pair_test s u k = never_both (equal (slice_index s k) 0) (equal (slice_index u k) 1)

-- another pair is rejected at the UT/local indicator
unfoldable pub pair_at : FilePieces → ℕ → Grammar (Unit {0})
pair_at p k = At (drop k (from_ut_local p)) (Check (PairAgrees p.parts.standard_wall p.parts.ut_local k)
    (pair_test p.parts.standard_wall p.parts.ut_local k) (refused.InvalidTzFile expected.StandardTimeWhereTimeIsUt) tt)

unfoldable pub indicators : FilePieces → Grammar (Unit {0})
indicators p = do
  Each (length p.parts.ut_local) (pair_at p)
  Nothing tt
