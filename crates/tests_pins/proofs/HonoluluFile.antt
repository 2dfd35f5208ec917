-- Honolulu's file, from what its grammar reads.
use Rattle.tz_info.specs.TzFiles.{tz_file}
use Rattle.tz_file.specs.declared.header.Version.TheVariants.{Two}
use Rattle.tests_pins.proofs.Words.{HasPieces, IsTzFile, List, Place, Spells, Version, []}
use Rattle.tests_pins.proofs.Words.{arith, be_u32, block as a_block, counts, counts_test, file as a_file, from_be_bytes}
use Rattle.tests_pins.proofs.Words.{header as a_header, honolulu, honolulu_file, hst10, inl, inr, lawful, long_times, magic, parts, pieces, refl}
use Rattle.tests_pins.proofs.{Words.{short_times, six_counts, tzif, version, w32, ℕ, ◌++◌, ◌∷◌, ◌≡◌}, Computed.{files}}
use Rattle.tests_pins.proofs.FileParts.{parts_are}
use Rattle.tests_pins.specs.Honolulu.{honolulu_block, honolulu_header}

-- ---- headers
four_bytes : (a b c d : ℕ) (rest : List ℕ) → Spells be_u32 (a ∷ b ∷ c ∷ d ∷ rest) (from_be_bytes w32 (a ∷ b ∷ c ∷ d ∷ [])) rest
unfolding be_u32
four_bytes a b c d rest = (a ∷ b ∷ c ∷ d ∷ [], rest, (refl, refl), (refl, refl))

counted : (rest : List ℕ)
    → Spells six_counts (0 ∷ 0 ∷ 0 ∷ 6 ∷ 0 ∷ 0 ∷ 0 ∷ 6 ∷ 0 ∷ 0 ∷ 0 ∷ 0 ∷ 0 ∷ 0 ∷ 0 ∷ 7 ∷ 0 ∷ 0 ∷ 0 ∷ 6 ∷ 0 ∷ 0 ∷ 0 ∷ 20 ∷ rest) counts rest
unfolding six_counts
counted rest = (
  _,
  _,
  four_bytes 0 0 0 6 _,
  (
    _,
    _,
    four_bytes 0 0 0 6 _,
    (_, _, four_bytes 0 0 0 0 _, (_, _, four_bytes 0 0 0 7 _, (_, _, four_bytes 0 0 0 6 _, (_, _, four_bytes 0 0 0 20 _, (refl, refl))))),
  ),
)

pub is_header : (place : Place) (byte : ℕ) (v : Version) (rest : List ℕ) → ((after : List ℕ) → Spells (version place) (byte ∷ after) v after)
    → Spells (a_header place) (honolulu_header byte ++ rest) (record { version = v; counts = counts }) rest
unfolding a_header tzif
is_header place byte v rest stands = (
  tt,
  _,
  (magic, _, (refl, refl), (refl, refl, refl)),
  (
    v,
    _,
    stands _,
    (
      0 ∷ 0 ∷ 0 ∷ 0 ∷ 0 ∷ 0 ∷ 0 ∷ 0 ∷ 0 ∷ 0 ∷ 0 ∷ 0 ∷ 0 ∷ 0 ∷ 0 ∷ [],
      _,
      (refl, refl),
      (counts, _, counted rest, ((counts_test counts).decides.0 refl, refl, refl)),
    ),
  ),
)

pub version_2 : (place : Place) (after : List ℕ) → Spells (version place) (50 ∷ after) Two after
unfolding version
version_2 place after = inr ((λ e. absurd (omega arith)), inl (after, refl, (refl, refl)))

-- ---- blocks
pub first_block : (rest : List ℕ) → Spells (a_block 4 counts) (honolulu_block short_times ++ rest) (parts short_times) rest
first_block rest = parts_are 4 counts (parts short_times) rest refl refl refl refl refl refl refl

pub second_block : (rest : List ℕ) → Spells (a_block 8 counts) (honolulu_block long_times ++ rest) (parts long_times) rest
second_block rest = parts_are 8 counts (parts long_times) rest refl refl refl refl refl refl refl

-- ---- the whole
pub file_pieces : HasPieces honolulu_file pieces
unfolding files
file_pieces = (lawful a_file honolulu_file).takes (pieces, []) refl

pub file : IsTzFile honolulu_file (honolulu hst10)
unfolding files
file = (lawful tz_file honolulu_file).takes (honolulu hst10, []) refl
