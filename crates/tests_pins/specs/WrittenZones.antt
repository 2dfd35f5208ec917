-- Bytes of files that are written.
use Rattle.std.specs.Prelude.{ℕ, List, [], ◌∷◌, ◌++◌}
use Rattle.tests_pins.specs.Honolulu.{designations, hst_footer, long_times, type_indexes, type_records}

-- a header of that version with one type and one byte of designations, six bytes of the type, and the byte
abbrev pub first_block : ℕ → List ℕ
first_block version =
    84 ∷ 90 ∷ 105 ∷ 102 ∷
    version ∷ 0 ∷ 0 ∷ 0 ∷ 0 ∷ 0 ∷ 0 ∷ 0 ∷ 0 ∷ 0 ∷ 0 ∷ 0 ∷ 0 ∷ 0 ∷ 0 ∷ 0 ∷
    0 ∷ 0 ∷ 0 ∷ 0 ∷
    0 ∷ 0 ∷ 0 ∷ 0 ∷
    0 ∷ 0 ∷ 0 ∷ 0 ∷
    0 ∷ 0 ∷ 0 ∷ 0 ∷
    0 ∷ 0 ∷ 0 ∷ 1 ∷
    0 ∷ 0 ∷ 0 ∷ 1 ∷
    0 ∷ 0 ∷ 0 ∷ 0 ∷ 0 ∷ 0 ∷
    0 ∷
    []

-- the header of Honolulu's second block without indicators
abbrev pub second_header : List ℕ
second_header =
    84 ∷ 90 ∷ 105 ∷ 102 ∷
    50 ∷ 0 ∷ 0 ∷ 0 ∷ 0 ∷ 0 ∷ 0 ∷ 0 ∷ 0 ∷ 0 ∷ 0 ∷ 0 ∷ 0 ∷ 0 ∷ 0 ∷ 0 ∷
    0 ∷ 0 ∷ 0 ∷ 0 ∷
    0 ∷ 0 ∷ 0 ∷ 0 ∷
    0 ∷ 0 ∷ 0 ∷ 0 ∷
    0 ∷ 0 ∷ 0 ∷ 7 ∷
    0 ∷ 0 ∷ 0 ∷ 6 ∷
    0 ∷ 0 ∷ 0 ∷ 20 ∷
    []

-- Honolulu's file with that block and that header
abbrev pub honolulu_written : List ℕ
honolulu_written = first_block 50 ++ (second_header ++ (long_times ++ (type_indexes ++ (type_records ++ (designations ++ hst_footer)))))
