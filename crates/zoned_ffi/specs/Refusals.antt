-- Why a call is refused, by the number that it returns.
use Rattle.std.specs.{Prelude.{ℕ, ◌≡◌, ◌≤◌, ◌⊎◌, List, true}, Str.{IsUtf8}}
use Rattle.tz_base.specs.{Errors.{error_number}, declared.error.{Error.{Error}, Expected.{Expected}}}
use Rattle.tz_info.specs.{PosixZones.{IsPosixZone, IsPosixFault, IsExtendedZone}, TzFiles.{IsZoneFault}, TzGrammar.{IsTextFault}, Zones.{Zone}}
use Rattle.zoned_ffi.specs.{Kinds.{IsKind, kind_number}, declared.{kind.Kind.{Kind}, refusal.Refusal.{Refusal}}}
use Rattle.tz_base.specs.declared.error.Error.TheVariants as errors
use Rattle.tz_base.specs.declared.error.Expected.TheVariants as expected
use Rattle.zoned_ffi.specs.declared.kind.Kind.TheVariants as kinds
use Rattle.zoned_ffi.specs.declared.refusal.Refusal.TheVariants as refusals

-- what is wrong with lists that make no zone has a number of its own; each other error keeps its number
abbrev pub list_number : Expected → ℕ
list_number expected.TypeIndexesWithinTypes = 41
list_number expected.TransitionTimesThatRise = 42
list_number expected.LeapSecondsInOrder = 43
list_number expected.RuleThatAgreesWithLastTransition = 44
list_number _ = 12

abbrev pub detail_number : Error → ℕ
detail_number (errors.TimeZone x) = list_number x
detail_number e = error_number e

abbrev pub refusal_number : Refusal → ℕ
refusal_number (refusals.File e) = detail_number e
refusal_number (refusals.Reader e) = error_number e
refusal_number refusals.TextNotUtf8 = 16
refusal_number refusals.UnknownKind = 31

-- what is wrong with a TZ string, by the number of the error: it is not UTF-8, or it is and has a fault, or there is no memory
-- for its zone
pub data IsStringError (bytes : List ℕ) : ℕ → Type 0 where
  Not_utf8 : ¬ (IsUtf8 bytes) → IsStringError bytes 16
  In_text : (e : Error) → IsUtf8 bytes → IsPosixFault bytes e → IsStringError bytes (error_number e)
  No_memory : (z : Zone) → IsUtf8 bytes → IsPosixZone bytes z → IsStringError bytes 17

-- what is wrong with a TZ string that may have extensions, by the number of the error: it has a fault, or there is no memory for its zone
pub data IsExtendedFault (bytes : List ℕ) : ℕ → Type 0 where
  In_string : (e : Error) → IsTextFault true bytes e → IsExtendedFault bytes (error_number e)
  No_memory : (z : Zone) → IsExtendedZone bytes z → IsExtendedFault bytes 17

-- what is wrong with a file, by the number of the error
pub data IsFileError (bytes : List ℕ) : ℕ → Type 0 where
  In_file : (e : Error) → IsZoneFault bytes e → IsFileError bytes (detail_number e)

-- what is wrong with bytes of that kind
abbrev pub IsFault : Kind → List ℕ → ℕ → Type 0
IsFault kinds.File bytes n = IsFileError bytes n
IsFault kinds.Text bytes n = IsStringError bytes n
IsFault kinds.ExtendedText bytes n = IsExtendedFault bytes n

-- the reader's numbers
abbrev pub IsReaderNumber : ℕ → Type 0
IsReaderNumber n = ((1 ≤ n) × (n ≤ 17)) ⊎ ((41 ≤ n) × (n ≤ 44))

-- why a call is refused: no kind has that number, or the bytes are refused, and that has a number of the reader's
pub data IsErrorOfKind (number : ℕ) (bytes : List ℕ) : ℕ → Type 0 where
  Unknown_kind : ¬ (IsKind number) → IsErrorOfKind number bytes 31
  Not_read : (kind : Kind) (n : ℕ) → number ≡ kind_number kind → IsFault kind bytes n → IsReaderNumber n → IsErrorOfKind number bytes n
