-- The pieces of a TZif file (RFC 8536 section 3).
use Rattle.std.specs.Prelude.{ℕ, ◌≡◌, Bool, true, false, List, [], ◌++◌, Option, Some, None}
use Rattle.tz_base.specs.{Grammar.{Grammar, Nothing, End, Rest, Spells, ◌>>=◌, ◌>>◌}}
use Rattle.tz_file.specs.{FileHeaders.{header}, FileBlocks.{Parts, block}, declared.{pieces.FileCounts.{FileCounts}, header.Place.TheVariants.{First, Second}}}
use Rattle.tz_file.specs.declared.header.{Version.{Version, TheVariants.{One, Two, Three}}, Counts.{Counts}, Header.{Header}}
use Rattle.tz_base.specs.Refusals as refused
use Rattle.tz_base.specs.declared.error.Expected.TheVariants as expected

-- the pieces that say what the zone is: the last block with its counts, the footer, if there is one, and whether its
-- text has the extensions of RFC 8536 section 3.3.1
pub record FilePieces : Type 0 where
  pub extended : Bool
  pub time_size : ℕ
  pub counts : Counts
  pub parts : Parts
  pub footer : Option (List ℕ)

-- the bytes of the footer: none without a footer
abbrev pub footer_bytes : Option (List ℕ) → List ℕ
footer_bytes (Some footer) = footer
footer_bytes None = []

-- the bytes from a part on: the later parts, in order, and the footer
abbrev pub from_ut_local : FilePieces → List ℕ
from_ut_local p = p.parts.ut_local ++ footer_bytes p.footer

abbrev pub from_leap_seconds : FilePieces → List ℕ
from_leap_seconds p = p.parts.leap_seconds ++ (p.parts.standard_wall ++ from_ut_local p)

abbrev pub from_types : FilePieces → List ℕ
from_types p = p.parts.types ++ (p.parts.designations ++ from_leap_seconds p)

abbrev pub from_type_indexes : FilePieces → List ℕ
from_type_indexes p = p.parts.type_indexes ++ from_types p

abbrev pub from_times : FilePieces → List ℕ
from_times p = p.parts.times ++ from_type_indexes p

abbrev pub is_extended : Version → Bool
is_extended Three = true
is_extended _ = false

-- in version 1 the first block says all, and nothing follows it
abbrev pub first_pieces : Counts → Parts → FilePieces
first_pieces c p = record { extended = false; time_size = 4; counts = c; parts = p; footer = None }

unfoldable pub first_version : Counts → Parts → Grammar FilePieces
first_version c p = do
  End (refused.InvalidTzFile expected.NothingAfterBlockOfVersion1)
  Nothing (first_pieces c p)

-- from version 2 on a second header follows, its block with times of eight bytes, and the footer, which is all the rest
abbrev pub later_pieces : Header → Parts → List ℕ → FilePieces
later_pieces h p footer = record { extended = is_extended h.version; time_size = 8; counts = h.counts; parts = p; footer = Some footer }

unfoldable pub later_version : Grammar FilePieces
later_version = do
  header ← header Second
  parts ← block 8 header.counts
  footer ← Rest
  Nothing (later_pieces header parts footer)

unfoldable pub after_first_block : Version → Counts → Parts → Grammar FilePieces
after_first_block One c p = first_version c p
after_first_block Two c p = later_version
after_first_block Three c p = later_version

-- a header, its block with times of four bytes, and what follows
unfoldable pub file : Grammar FilePieces
file = do
  header ← header First
  parts ← block 4 header.counts
  after_first_block header.version header.counts parts

abbrev pub HasPieces : List ℕ → FilePieces → Type 0
HasPieces bytes pieces = Spells file bytes pieces []

-- the block that says what the zone is has that many transitions and leap seconds
pub record HasCounts (bytes : List ℕ) (c : FileCounts) : Type 0 where
  pub pieces : FilePieces
  pub has : HasPieces bytes pieces
  pub transitions_are : c.transitions ≡ pieces.counts.transitions
  pub leap_seconds_are : c.leap_seconds ≡ pieces.counts.leap_seconds
