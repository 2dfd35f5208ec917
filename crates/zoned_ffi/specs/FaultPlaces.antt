-- The position of the fault of a TZ string or a file.
use Rattle.std.specs.{Prelude.{ℕ, ◌≡◌, List, Result, Ok, Err, true}, Option.{unwrap_or}, Str.{IsUtf8, IsValidUpTo}}
use Rattle.tz_base.specs.declared.{error.Error.{Error}, parse_error.ParseError.{ParseError}}
use Rattle.tz_info.specs.{PosixZones.{IsPosixFault, IsPosixFaultPlace, IsPosixZone, IsExtendedZone}, TzGrammar.{IsTextFault, text_fault_position}}
use Rattle.tz_file.specs.FilePieces.{FilePieces, HasPieces}
use Rattle.tz_info.specs.{FilePlaces.{IsFilePlace}, TzFiles.{IsFileFault, IsTzFile}, Zones.{IsValid, Zone}}
use Rattle.zoned_ffi.specs.Kinds.{IsKind}

abbrev pub no_position : ℕ
no_position = 18_446_744_073_709_551_615

-- the number of bytes in front of the fault: of a TZ string, its first byte that is not UTF-8 or, if it has none, its fault; of a string
-- that may have extensions; and of a file
pub data IsFaultPosition (kind : ℕ) (bytes : List ℕ) : ℕ → Type 0 where
  Not_utf8 : (n : ℕ) → kind ≡ 1 → ¬ (IsUtf8 bytes) → IsValidUpTo bytes n → IsFaultPosition kind bytes n
  In_text : (e : Error) (n : ℕ) → kind ≡ 1 → IsUtf8 bytes → IsPosixFault bytes e → IsPosixFaultPlace bytes n → IsFaultPosition kind bytes n
  In_string : (e : Error) → kind ≡ 2 → IsTextFault true bytes e → IsFaultPosition kind bytes (text_fault_position true bytes)
  In_file : (e : Error) (n : ℕ) → kind ≡ 0 → IsFileFault bytes e → IsFilePlace bytes n → IsFaultPosition kind bytes n
  -- bytes that spell a zone have none, nor has a file for whose lists there is no memory, nor have bytes of no kind
  Text_zone : (z : Zone) → kind ≡ 1 → IsUtf8 bytes → IsPosixZone bytes z → IsFaultPosition kind bytes no_position
  String_zone : (z : Zone) → kind ≡ 2 → IsExtendedZone bytes z → IsFaultPosition kind bytes no_position
  File_zone : (z : Zone) → kind ≡ 0 → IsTzFile bytes z → IsValid z → IsFaultPosition kind bytes no_position
  No_memory : (p : FilePieces) → kind ≡ 0 → HasPieces bytes p → IsFaultPosition kind bytes no_position
  No_kind : ¬ (IsKind kind) → IsFaultPosition kind bytes no_position

-- the position of what was read
abbrev pub position_of : Result Zone ParseError → ℕ
position_of (Ok z) = no_position
position_of (Err e) = unwrap_or e.position no_position
