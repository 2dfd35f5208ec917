-- Small TZif files with a fault (RFC 8536 section 3): a header of 44 bytes, a block, and from version 2 on both again and a footer.
use Rattle.std.specs.Prelude.{ℕ, ◌≡◌, List, [], ◌∷◌, ◌++◌}
use Rattle.tz_info.specs.FilePlaces.{IsFilePlace}
use Rattle.tests_pins.specs.Files.{short_record}

-- the fault of the file has that place and no other
pub record IsOnlyPlace (bytes : List ℕ) (place : ℕ) : Type 0 where
  pub there : IsFilePlace bytes place
  pub only : (n : ℕ) → IsFilePlace bytes n → n ≡ place

-- ---- headers
-- the fifteen bytes after the version, and a count of four bytes
abbrev pub unused : List ℕ
unused = 0 ∷ 0 ∷ 0 ∷ 0 ∷ 0 ∷ 0 ∷ 0 ∷ 0 ∷ 0 ∷ 0 ∷ 0 ∷ 0 ∷ 0 ∷ 0 ∷ 0 ∷ []

abbrev pub count : ℕ → List ℕ
count n = 0 ∷ 0 ∷ 0 ∷ n ∷ []

-- the counts of UT/local and standard/wall indicators, leap seconds, transitions, types and bytes of designations
abbrev pub header_of : ℕ → (ut_local standard_wall leap_seconds transitions types designations : ℕ) → List ℕ
header_of version ut_local standard_wall leap_seconds transitions types designations =
    84 ∷ 90 ∷ 105 ∷ 102 ∷ version ∷
    (unused ++ (count ut_local ++ (count standard_wall ++ (count leap_seconds ++ (count transitions ++ (count types ++ count designations))))))

-- of one type and four bytes of designations
abbrev pub plain_header : ℕ → List ℕ
plain_header version = header_of version 0 0 0 0 1 4

-- ---- blocks
-- a type at UTC whose designation begins at 0, and `UTC` with a 0 byte
abbrev pub utc_record : List ℕ
utc_record = 0 ∷ 0 ∷ 0 ∷ 0 ∷ 0 ∷ 0 ∷ []

abbrev pub utc_designation : List ℕ
utc_designation = 85 ∷ 84 ∷ 67 ∷ 0 ∷ []

abbrev pub utc_block : List ℕ
utc_block = utc_record ++ utc_designation

-- ---- files of version 1
-- the same but for the header
abbrev pub under : List ℕ → List ℕ
under header = header ++ utc_block

-- with that record of the only type
abbrev pub of_record : List ℕ → List ℕ
of_record bytes = plain_header 0 ++ (bytes ++ utc_designation)

-- two types, the second with that record
abbrev pub of_second_record : List ℕ → List ℕ
of_second_record bytes = header_of 0 0 0 0 0 2 4 ++ (utc_record ++ (bytes ++ utc_designation))

-- two transitions, with those bytes of times and those type indexes
abbrev pub of_transitions : List ℕ → List ℕ → List ℕ
of_transitions times type_indexes = header_of 0 0 0 0 2 1 4 ++ (times ++ (type_indexes ++ utc_block))

-- the times 1 and 2
abbrev pub one_and_two : List ℕ
one_and_two = count 1 ++ count 2

-- with those indicators of the only type
abbrev pub of_indicators : ℕ → ℕ → List ℕ
of_indicators standard_wall ut_local = header_of 0 1 1 0 0 1 4 ++ (utc_block ++ (standard_wall ∷ ut_local ∷ []))

-- a leap second with that correction at 1972-06-30 23:59:60, and the next one, of two seconds, a second later
abbrev pub of_first_leap : ℕ → List ℕ
of_first_leap correction = header_of 0 0 0 1 0 1 4 ++ (utc_block ++ (4 ∷ 178 ∷ 88 ∷ 0 ∷ count correction))

abbrev pub of_second_leap : List ℕ
of_second_leap = header_of 0 0 0 2 0 1 4 ++ (utc_block ++ (short_record ++ (4 ∷ 178 ∷ 88 ∷ 1 ∷ count 2)))

-- ---- files of version 2
-- with that header in the second place, and with that footer
abbrev pub with_second : List ℕ → List ℕ
with_second header = under (plain_header 50) ++ (header ++ utc_block)

abbrev pub with_footer : List ℕ → List ℕ
with_footer footer = with_second (plain_header 50) ++ footer

-- a transition to UTC at the second 0, and `XXX1` between newlines: a zone of an hour behind UTC
abbrev pub with_other_rule : List ℕ
with_other_rule =
    under (plain_header 50) ++ (header_of 50 0 0 0 1 1 4 ++
    (0 ∷ 0 ∷ 0 ∷ 0 ∷ 0 ∷ 0 ∷ 0 ∷ 0 ∷ 0 ∷ (utc_block ++ (10 ∷ 88 ∷ 88 ∷ 88 ∷ 49 ∷ 10 ∷ []))))
