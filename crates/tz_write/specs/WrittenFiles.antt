-- Which zones are written as files, and what is written.
use Rattle.std.specs.{Prelude.{ℕ, ◌≡◌, ◌<◌, ◌^◌, Bool, false, List, [], length, slice_index, All, FitsSigned, Option, Some, None}, Int.{w32, w64}}
use Rattle.tz_base.specs.{Grammar.{Spells}, LocalTypes.{LocalType, IsUtOffset}, Names.{IsNameOrNone}}
use Rattle.tz_file.specs.{FileHeaders.{header}, FilePieces.{FilePieces, HasPieces}}
use Rattle.tz_info.specs.{TzFiles.{IsTzFile}, Zones.{Zone}}
use Rattle.tz_file.specs.declared.header.{Place.TheVariants.{First}, Version.{Version}}
use Rattle.tz_info.specs.declared.rule.transition_rule.TransitionRule.{TransitionRule}
use Rattle.tz_base.specs.declared.{leap_second.LeapSecond.{LeapSecond}, transition.Transition.{Transition}}
use Rattle.tz_write.specs.{FileBytes.{version_byte, least_counts, footer_bytes}, FileDesignations.{AreNamesIn, AreShortest}, Steps.LaidFiles.{laid_file}}
use Rattle.tz_write.specs.WrittenTexts.{CanBeSpelled, AreTimesOf, IsWrittenText}

-- a number of four bytes
abbrev pub IsCount : ℕ → Type 0
IsCount n = n < 2 ^ 32

pub record HasCounts (z : Zone) : Type 0 where
  pub transitions : IsCount (length z.transitions)
  pub types : IsCount (length z.types)
  pub leaps : IsCount (length z.leaps)

-- a byte can name the transition's type
abbrev pub HasIndex : Transition → Type 0
HasIndex t = t.type_index < 256

-- the second block has room for the zone
pub record FitsBlock (z : Zone) : Type 0 where
  pub counts : HasCounts z
  pub indexes : All HasIndex z.transitions
  pub designations : List ℕ
  pub names : AreNamesIn designations z.types

-- there is no rule, or some text spells it
abbrev pub IsSpellableOrNone : Option TransitionRule → Type 0
IsSpellableOrNone (Some rule) = CanBeSpelled rule
IsSpellableOrNone None = Unit {0}

-- the zone can be written
pub record IsWritable (z : Zone) : Type 0 where
  pub room : FitsBlock z
  pub rule : IsSpellableOrNone z.rule

-- numbers below 256
abbrev pub AreBytes : List ℕ → Type 0
AreBytes bytes = All (λ b. b < 256) bytes

-- no file spells the zone, of whatever version
abbrev pub IsInNoFile : Zone → Type 0
IsInNoFile z = (bytes : List ℕ) → AreBytes bytes → ¬ (IsTzFile bytes z)

-- the text of the footer, and whether it needs the extensions of version 3; no rule has the empty text
abbrev pub IsFooterText : Option TransitionRule → List ℕ → Bool → Type 0
IsFooterText (Some rule) text extended = IsWrittenText rule text extended
IsFooterText None text extended = (text ≡ []) × (extended ≡ false)

-- both headers give the version: the byte after `TZif`, in the first and, 51 bytes on, in the second
pub record HaveVersion (extended : Bool) (bytes : List ℕ) : Type 0 where
  pub first : slice_index bytes 4 ≡ version_byte extended
  pub second : slice_index bytes 55 ≡ version_byte extended

-- the first header counts one type and one byte of designations, the least that a block may have
abbrev pub HasLeastBlock : List ℕ → Type 0
HasLeastBlock bytes = (version : Version) × (rest : List ℕ) × Spells (header First) bytes (record { version = version; counts = least_counts }) rest

-- the pieces that spell the types have no indicators, the shortest designations, and that text between newlines as the footer
pub record AreWrittenPieces (types : List LocalType) (text : List ℕ) (p : FilePieces) : Type 0 where
  pub standard_wall : p.counts.standard_wall ≡ 0
  pub ut_local : p.counts.ut_local ≡ 0
  pub names : AreShortest p.parts.designations types
  pub footer : p.footer ≡ Some (footer_bytes text)

-- the file that is written of a zone: such pieces spell the zone; both headers have version 3 if the footer has extensions, else 2. The
-- bytes are those of one function of the zone, so equal zones have equal files: which function it is need not be believed
pub record IsWrittenFile (z : Zone) (bytes : List ℕ) : Type 0 where
  pub spells : IsTzFile bytes z
  pub text : List ℕ
  pub extended : Bool
  pub footer : IsFooterText z.rule text extended
  pub pieces : (p : FilePieces) → HasPieces bytes p → AreWrittenPieces z.types text p
  pub version : HaveVersion extended bytes
  pub first : HasLeastBlock bytes
  pub same : bytes ≡ laid_file z

-- no text without extensions has room for the times of the zone's rule
abbrev pub NeedsExtensions : Option TransitionRule → Type 0
NeedsExtensions (Some rule) = ¬ (AreTimesOf false rule)
NeedsExtensions None = ⊥

-- ---- what the program's types ensure
-- a time of 64 bits
abbrev pub HasTimeOf64Bits : Transition → Type 0
HasTimeOf64Bits t = FitsSigned w64 t.unix_leap_time

-- a time of 64 bits and a correction of 32
pub record IsEntry (leap : LeapSecond) : Type 0 where
  pub time : FitsSigned w64 leap.unix_leap_time
  pub correction : FitsSigned w32 leap.correction

-- an offset and a name that a type can have
pub record IsType (t : LocalType) : Type 0 where
  pub offset : IsUtOffset t.offset
  pub name : IsNameOrNone t.name

-- the numbers of each list are those of their types
pub record IsSound (z : Zone) : Type 0 where
  pub times : All HasTimeOf64Bits z.transitions
  pub types : All IsType z.types
  pub leaps : All IsEntry z.leaps
