-- The file that is written of Honolulu's zone, and first blocks that are as short as they may be, or longer.
use Rattle.std.{proofs.lemmas.List.Elements.{All-cons, All-nil}, specs.Prelude.{All, FitsSigned, ◌^◌}}
use Rattle.tz_base.proofs.Decided.{value_once}
use Rattle.tz_base.specs.{LocalTypes.{IsUtOffset}, Steps.TextTests.{is_name, name_from}}
use Rattle.tz_file.specs.declared.header.{Place.TheVariants.{First}, Version.TheVariants.{Three, Two}}
use Rattle.tz_write.proofs.{FileWritten.{file_some}, LaidNames.{laid_is}}
use Rattle.tz_write.specs.WrittenFiles.{HasIndex, HasLeastBlock, HasTimeOf64Bits, HaveVersion, IsSound, IsType, IsWritable, IsWrittenFile}
use Rattle.tests_pins.proofs.Words.{Bool, List, Some, [], ap, arith, designations, fits_signed_from_abs, header as a_header, honolulu, honolulu_file, hst10}
use Rattle.tests_pins.proofs.Words.{ints, lawful, refl, unsigned_abs, true, w64, ℕ, ℤ, ◌++◌, ◌<◌, ◌∷◌, ◌≡◌}
use Rattle.tests_pins.proofs.{Computed.{files, written}, HonoluluFile.{is_header, version_2}}
use Rattle.tests_pins.specs.{Honolulu.{honolulu_header}, WrittenZones.{first_block, honolulu_written as honolulu_bytes}}

-- ---- first blocks
pub least : HasLeastBlock (first_block 51)
unfolding files
least = (Three, _, (lawful (a_header First) (first_block 51)).takes (_, _) refl)

pub more : HasLeastBlock honolulu_file → ⊥
more (version, rest, h) =
    let same = value_once (lawful (a_header First) honolulu_file) (_, rest) (_, _) h (is_header First 50 Two _ (version_2 First)) in
    absurd (omega (arith, ap (λ read. read.0.counts.transitions) same))

pub version_3 : HaveVersion true (first_block 51 ++ honolulu_header 51)
version_3 = record { first = refl; second = refl }

pub first_of_2 : HaveVersion true (first_block 50 ++ honolulu_header 51) → ⊥
first_of_2 h = absurd (omega (arith, h.first))

pub second_of_2 : HaveVersion true (first_block 51 ++ honolulu_header 50) → ⊥
second_of_2 h = absurd (omega (arith, h.second))

pub ruleset first_blocks = (least, more, version_3, first_of_2, second_of_2)

-- ---- Honolulu's zone can be written
-- what holds of each item, one after another
abbrev Each : {X : Type 0} → (X → Type 0) → List X → Type 0
Each P [] = Unit {0}
Each P (x ∷ xs) = P x × Each P xs

each : {X : Type 0} (P : X → Type 0) (xs : List X) → Each P xs → All P xs
each P [] h = All-nil P
each P (x ∷ xs) h = All-cons P x xs h.0 (each P xs h.1)

time : (z : ℤ) → unsigned_abs z < 2 ^ 63 → FitsSigned w64 z
time z h = fits_signed_from_abs w64 z h

-- an offset and a name that ends with `T`
type : (a b : ℕ) (offset : ℤ) (dst : Bool) → IsUtOffset offset → is_name (a ∷ b ∷ 84 ∷ []) ≡ true
    → IsType (record { offset = offset; dst = dst; name = Some (a ∷ b ∷ 84 ∷ []) })
type a b offset dst h name = record { offset = h; name = name_from (a ∷ b ∷ 84 ∷ []) name }

sound : IsSound (honolulu hst10)
sound = record {
  times = each HasTimeOf64Bits (honolulu hst10).transitions (
    time _ (omega arith),
    (
      time _ (omega arith),
      (
        time _ (omega arith),
        (
          time _ (omega arith),
          (time _ (omega arith), (time _ (omega arith), (time _ (omega arith), tt))),
        ),
      ),
    ),
  );
  types = each IsType (honolulu hst10).types (
    type 76 77 _ _ (omega (arith, ints)) refl,
    (
      type 72 83 _ _ (omega (arith, ints)) refl,
      (
        type 72 68 _ _ (omega (arith, ints)) refl,
        (
          type 72 87 _ _ (omega (arith, ints)) refl,
          (
            type 72 80 _ _ (omega (arith, ints)) refl,
            (type 72 83 _ _ (omega (arith, ints)) refl, tt),
          ),
        ),
      ),
    ),
  );
  leaps = λ i d l. absurd (omega arith);
}

writable : IsWritable (honolulu hst10)
unfolding written
writable =
    let laid = laid_is (honolulu hst10).types (omega arith) (λ i d l. (sound.types i d l).name) designations refl in record {
      room = record {
        counts = record { transitions = omega arith; types = omega arith; leaps = omega arith };
        indexes = each HasIndex (honolulu hst10).transitions
            (omega arith, (omega arith, (omega arith, (omega arith, (omega arith, (omega arith, (omega arith, tt)))))));
        designations = designations;
        names = laid.2.names;
      };
      rule = ((_, record { allowed = name_from (72 ∷ 83 ∷ 84 ∷ []) refl; named = refl; flag = refl }), omega (arith, ints));
    }

pub honolulu_written : IsWrittenFile (honolulu hst10) honolulu_bytes
unfolding written
honolulu_written = let w = file_some (honolulu hst10) (omega arith) tt sound writable in rw w.1.same at w.1
