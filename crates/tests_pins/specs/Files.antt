-- Bytes of parts of files.
use Rattle.std.specs.Prelude.{ℕ, List, [], ◌∷◌}
use Rattle.tz_file.specs.{FileBlocks.{Parts}, declared.header.Counts.{Counts}}

-- the numbers from 1 to 6, of four bytes each
abbrev pub one_to_six : List ℕ
one_to_six =
    0 ∷ 0 ∷ 0 ∷ 1 ∷
    0 ∷ 0 ∷ 0 ∷ 2 ∷
    0 ∷ 0 ∷ 0 ∷ 3 ∷
    0 ∷ 0 ∷ 0 ∷ 4 ∷
    0 ∷ 0 ∷ 0 ∷ 5 ∷
    0 ∷ 0 ∷ 0 ∷ 6 ∷
    []

-- that many indicators of each kind, types, and bytes of designations
abbrev pub of_types : ℕ → ℕ → ℕ → Counts
of_types indicators types designations = record {
  ut_local = indicators;
  standard_wall = indicators;
  leap_seconds = 0;
  transitions = 0;
  types = types;
  designations = designations;
}

-- the record of the leap second of 1972-06-30, whose time has four bytes, or eight
abbrev pub short_record : List ℕ
short_record = 4 ∷ 178 ∷ 88 ∷ 0 ∷ 0 ∷ 0 ∷ 0 ∷ 1 ∷ []

abbrev pub long_record : List ℕ
long_record = 0 ∷ 0 ∷ 0 ∷ 0 ∷ 4 ∷ 178 ∷ 88 ∷ 0 ∷ 0 ∷ 0 ∷ 0 ∷ 1 ∷ []

-- one leap second and nothing else
abbrev pub one_leap_second : Counts
one_leap_second = record {
  ut_local = 0;
  standard_wall = 0;
  leap_seconds = 1;
  transitions = 0;
  types = 0;
  designations = 0;
}

abbrev pub with_leap_second : List ℕ → Parts
with_leap_second bytes = record {
  times = [];
  type_indexes = [];
  types = [];
  designations = [];
  leap_seconds = bytes;
  standard_wall = [];
  ut_local = [];
}
