-- Bytes of Honolulu's file (RFC 8536 appendix B.2).
use Rattle.std.specs.Prelude.{ℕ, List, [], ◌∷◌, ◌++◌, false, Some}
use Rattle.tz_file.specs.{FileBlocks.{Parts}, FilePieces.{FilePieces}, declared.header.Counts.{Counts}}

-- the names, each with a 0 byte at its end: `LMT`, `HST`, `HDT`, `HWT` and `HPT`
abbrev pub designations : List ℕ
designations =
    76 ∷ 77 ∷ 84 ∷ 0 ∷
    72 ∷ 83 ∷ 84 ∷ 0 ∷
    72 ∷ 68 ∷ 84 ∷ 0 ∷
    72 ∷ 87 ∷ 84 ∷ 0 ∷
    72 ∷ 80 ∷ 84 ∷ 0 ∷
    []

-- a type of -10:00 whose name begins at 4, and whose isdst byte is that
abbrev pub hst_record : ℕ → List ℕ
hst_record isdst = 255 ∷ 255 ∷ 115 ∷ 96 ∷ isdst ∷ 4 ∷ []

-- the first transition's time, and the least time of four bytes
abbrev pub first_time : List ℕ
first_time = 255 ∷ 255 ∷ 255 ∷ 255 ∷ 116 ∷ 224 ∷ 112 ∷ 190 ∷ []

abbrev pub least_time_bytes : List ℕ
least_time_bytes = 128 ∷ 0 ∷ 0 ∷ 0 ∷ []

-- `HST10` between newlines
abbrev pub hst_footer : List ℕ
hst_footer = 10 ∷ 72 ∷ 83 ∷ 84 ∷ 49 ∷ 48 ∷ 10 ∷ []

-- how many things each header counts
abbrev pub counts : Counts
counts = record {
  ut_local = 6;
  standard_wall = 6;
  leap_seconds = 0;
  transitions = 7;
  types = 6;
  designations = 20;
}

-- a header of that version's byte, fifteen 0 bytes, and the counts
abbrev pub honolulu_header : ℕ → List ℕ
honolulu_header version =
    84 ∷ 90 ∷ 105 ∷ 102 ∷
    version ∷ 0 ∷ 0 ∷ 0 ∷ 0 ∷ 0 ∷ 0 ∷ 0 ∷ 0 ∷ 0 ∷ 0 ∷ 0 ∷ 0 ∷ 0 ∷ 0 ∷ 0 ∷
    0 ∷ 0 ∷ 0 ∷ 6 ∷
    0 ∷ 0 ∷ 0 ∷ 6 ∷
    0 ∷ 0 ∷ 0 ∷ 0 ∷
    0 ∷ 0 ∷ 0 ∷ 7 ∷
    0 ∷ 0 ∷ 0 ∷ 6 ∷
    0 ∷ 0 ∷ 0 ∷ 20 ∷
    []

-- the first block's times of the transitions, of four bytes each
abbrev pub short_times : List ℕ
short_times =
    128 ∷ 0 ∷ 0 ∷ 0 ∷
    187 ∷ 5 ∷ 67 ∷ 72 ∷
    187 ∷ 33 ∷ 113 ∷ 88 ∷
    203 ∷ 137 ∷ 61 ∷ 200 ∷
    210 ∷ 35 ∷ 244 ∷ 112 ∷
    210 ∷ 97 ∷ 73 ∷ 56 ∷
    213 ∷ 141 ∷ 115 ∷ 72 ∷
    []

-- the second block's, of eight bytes each
abbrev pub long_times : List ℕ
long_times =
    255 ∷ 255 ∷ 255 ∷ 255 ∷ 116 ∷ 224 ∷ 112 ∷ 190 ∷
    255 ∷ 255 ∷ 255 ∷ 255 ∷ 187 ∷ 5 ∷ 67 ∷ 72 ∷
    255 ∷ 255 ∷ 255 ∷ 255 ∷ 187 ∷ 33 ∷ 113 ∷ 88 ∷
    255 ∷ 255 ∷ 255 ∷ 255 ∷ 203 ∷ 137 ∷ 61 ∷ 200 ∷
    255 ∷ 255 ∷ 255 ∷ 255 ∷ 210 ∷ 35 ∷ 244 ∷ 112 ∷
    255 ∷ 255 ∷ 255 ∷ 255 ∷ 210 ∷ 97 ∷ 73 ∷ 56 ∷
    255 ∷ 255 ∷ 255 ∷ 255 ∷ 213 ∷ 141 ∷ 115 ∷ 72 ∷
    []

-- the type of each transition
abbrev pub type_indexes : List ℕ
type_indexes = 1 ∷ 2 ∷ 1 ∷ 3 ∷ 4 ∷ 1 ∷ 5 ∷ []

-- the records of `LMT`, `HST` of -10:30, `HDT`, `HWT`, `HPT`, and `HST` of -10:00
abbrev pub type_records : List ℕ
type_records =
    255 ∷ 255 ∷ 108 ∷ 2 ∷ 0 ∷ 0 ∷
    255 ∷ 255 ∷ 108 ∷ 88 ∷ 0 ∷ 4 ∷
    255 ∷ 255 ∷ 122 ∷ 104 ∷ 1 ∷ 8 ∷
    255 ∷ 255 ∷ 122 ∷ 104 ∷ 1 ∷ 12 ∷
    255 ∷ 255 ∷ 122 ∷ 104 ∷ 1 ∷ 16 ∷
    255 ∷ 255 ∷ 115 ∷ 96 ∷ 0 ∷ 4 ∷
    []

-- the indicators, the same of both kinds
abbrev pub indicators : List ℕ
indicators = 0 ∷ 0 ∷ 0 ∷ 0 ∷ 1 ∷ 0 ∷ []

-- the parts of a block with those times
abbrev pub parts : List ℕ → Parts
parts times = record {
  times = times;
  type_indexes = type_indexes;
  types = type_records;
  designations = designations;
  leap_seconds = [];
  standard_wall = indicators;
  ut_local = indicators;
}

-- the bytes of that block: there are no leap seconds
abbrev pub honolulu_block : List ℕ → List ℕ
honolulu_block times =
    times ++ (type_indexes ++ (type_records ++ (designations ++ (indicators ++ indicators))))

-- the file, with that version's byte in its second header
abbrev pub file_with : ℕ → List ℕ
file_with version =
    honolulu_header 50 ++ (honolulu_block short_times ++ (honolulu_header version ++ (honolulu_block long_times ++ hst_footer)))

-- the file as it is: both headers say version 2
abbrev pub honolulu_file : List ℕ
honolulu_file = file_with 50

-- its first block alone, as a file of version 1
abbrev pub short_file : List ℕ
short_file = honolulu_header 0 ++ honolulu_block short_times

-- the pieces that say the zone: the second block and the footer
abbrev pub pieces : FilePieces
pieces = record {
  extended = false;
  time_size = 8;
  counts = counts;
  parts = parts long_times;
  footer = Some hst_footer;
}
