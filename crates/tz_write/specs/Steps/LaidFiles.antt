-- The bytes of the TZif file that is written of a zone (RFC 8536 section 3), laid as small as the section lets them be: no indicators,
-- and before the block that says the zone a first one with the least counts.
use Rattle.std.specs.{Prelude.{ℕ, ℤ, Bool, false, not, if◌then◌else◌, List, [], ◌∷◌, ◌++◌, length, Option, Some, None}, List.{flat_map}}
use Rattle.std.specs.Int.{Width, w32, w64, to_be_bytes, cast_unsigned}
use Rattle.tz_base.specs.LocalTypes.{LocalType}
use Rattle.tz_file.specs.{FileBlocks.{Parts}, FileHeaders.{magic}, declared.header.Counts.{Counts}}
use Rattle.tz_info.specs.Zones.{Zone}
use Rattle.tz_base.specs.declared.{leap_second.LeapSecond.{LeapSecond}, transition.Transition.{Transition}}
use Rattle.tz_info.specs.declared.rule.transition_rule.TransitionRule.{TransitionRule}
use Rattle.tz_write.specs.{FileBytes.{version_byte, least_counts, footer_bytes}, FileDesignations.{name_of, name_or_none}}
use Rattle.tz_write.specs.Steps.{LaidNames.{place_of, laid_names}, TextPieces.{spelled_rule, has_plain_times}}

-- ---- numbers, the highest byte first
-- a number of four bytes
unfoldable pub number_bytes : ℕ → List ℕ
number_bytes n = to_be_bytes w32 n

-- a number in two's complement
unfoldable pub signed_bytes : Width → ℤ → List ℕ
signed_bytes w z = to_be_bytes w (cast_unsigned w z)

-- ---- headers
-- the six counts, in the order in which a header gives them
unfoldable pub counts_bytes : Counts → List ℕ
counts_bytes c =
    number_bytes c.ut_local
    ++ (number_bytes c.standard_wall
    ++ (number_bytes c.leap_seconds
    ++ (number_bytes c.transitions
    ++ (number_bytes c.types ++ number_bytes c.designations))))

-- fifteen bytes that say nothing
abbrev pub unused : List ℕ
unused = 0 ∷ 0 ∷ 0 ∷ 0 ∷ 0 ∷ 0 ∷ 0 ∷ 0 ∷ 0 ∷ 0 ∷ 0 ∷ 0 ∷ 0 ∷ 0 ∷ 0 ∷ []

unfoldable pub header_bytes : Bool → Counts → List ℕ
header_bytes extended c = magic ++ (version_byte extended ∷ (unused ++ counts_bytes c))

-- no indicators
abbrev pub counts_of : ℕ → ℕ → ℕ → ℕ → Counts
counts_of leap_seconds transitions types designations = record {
  ut_local = 0;
  standard_wall = 0;
  leap_seconds = leap_seconds;
  transitions = transitions;
  types = types;
  designations = designations;
}

-- ---- the first block: six bytes of the type and one of the designations
abbrev pub least_block : List ℕ
least_block = 0 ∷ 0 ∷ 0 ∷ 0 ∷ 0 ∷ 0 ∷ 0 ∷ []

-- ---- the second block
abbrev pub time_bytes : Transition → List ℕ
time_bytes t = signed_bytes w64 t.unix_leap_time

abbrev pub index_bytes : Transition → List ℕ
index_bytes t = t.type_index ∷ []

abbrev pub mark_byte : Bool → ℕ
mark_byte dst = if dst then 1 else 0

-- the offset, the mark of daylight saving time, and where in the designations its text begins
unfoldable pub type_bytes : List ℕ → LocalType → List ℕ
type_bytes designations t = signed_bytes w32 t.offset ++ (mark_byte t.dst ∷ place_of (name_of t) designations ∷ [])

unfoldable pub leap_bytes : LeapSecond → List ℕ
leap_bytes leap = signed_bytes w64 leap.unix_leap_time ++ signed_bytes w32 leap.correction

abbrev pub zone_counts : List ℕ → Zone → Counts
zone_counts designations z = counts_of (length z.leaps) (length z.transitions) (length z.types) (length designations)

abbrev pub zone_parts : List ℕ → Zone → Parts
zone_parts designations z = record {
  times = flat_map time_bytes z.transitions;
  type_indexes = flat_map index_bytes z.transitions;
  types = flat_map (type_bytes designations) z.types;
  designations = designations;
  leap_seconds = flat_map leap_bytes z.leaps;
  standard_wall = [];
  ut_local = [];
}

-- parts laid end to end, and the rest
abbrev pub block_bytes : Parts → List ℕ → List ℕ
block_bytes p rest = p.times ++ (p.type_indexes ++ (p.types ++ (p.designations ++ (p.leap_seconds ++ (p.standard_wall ++ (p.ut_local ++ rest))))))

-- ---- the whole
unfoldable pub first_half : Bool → List ℕ
first_half extended = header_bytes extended least_counts ++ least_block

unfoldable pub second_half : Bool → List ℕ → List ℕ → Zone → List ℕ
second_half extended text designations z =
    header_bytes extended (zone_counts designations z) ++ block_bytes (zone_parts designations z) (footer_bytes text)

-- the file of that zone with those designations, whose footer has that text
unfoldable pub file_bytes : Bool → List ℕ → List ℕ → Zone → List ℕ
file_bytes extended text designations z = first_half extended ++ second_half extended text designations z

-- the text of the footer; no rule has the empty text
abbrev pub footer_text : Option TransitionRule → List ℕ
footer_text (Some rule) = spelled_rule rule
footer_text None = []

-- whether it needs the extensions of version 3
abbrev pub is_extended : Option TransitionRule → Bool
is_extended (Some rule) = not (has_plain_times rule)
is_extended None = false

-- the file of that zone
unfoldable pub laid_file : Zone → List ℕ
laid_file z = file_bytes (is_extended z.rule) (footer_text z.rule) (name_or_none (laid_names z.types)) z
