-- What comes of parsing, as a call reports it.
use Rattle.zoned_ffi.proofs.Words.{Error, IfErr, IsErrorOfKind, IsExtendedFault, IsFault, IsFileError, IsOutOfMemory, IsPosixFault, detail_number, IsPosixZone}
use Rattle.zoned_ffi.proofs.Words.{IsStringError, IsUtf8, IsZoneFault, Kind, List, Refusal, Result, Zone, arith, error_number, inl, inr, true, ℕ, ◌≡◌, ◌⊎◌}
use Rattle.zoned_ffi.specs.{Kinds.{IsZoneOf, SpellsZone, kind_number}, Refusals.{IsReaderNumber, refusal_number, IsErrorOfKind.{Unknown_kind}}}
use Rattle.zoned_ffi.specs.Refusals.{IsFileError.{In_file}, IsStringError.{Not_utf8}}
use Rattle.tz_info.{proofs.ForCallers.{file_pieces}, specs.{PosixZones.{IsExtendedZone}, TzGrammar.{IsTextFault}}}
use Rattle.tz_base.specs.declared.error.Error.TheVariants as errors
use Rattle.zoned_ffi.specs.declared.kind.Kind.TheVariants as kinds

-- the number of a text's error is that of its fault
pub text_refused : (bytes : List ℕ) (e : Error) → IsUtf8 bytes → IsOutOfMemory e ⊎ IsPosixFault bytes e → (IsOutOfMemory e → (z : Zone) × IsPosixZone bytes z)
    → IsStringError bytes (error_number e)
text_refused bytes e utf8 (inl is) memory = let zone = memory is in rw is (IsStringError.No_memory zone.0 utf8 zone.1)
text_refused bytes e utf8 (inr there) memory = IsStringError.In_text e utf8 there

-- and so is that of a TZ string with extensions
pub extended_refused : (bytes : List ℕ) (e : Error) → IsOutOfMemory e ⊎ IsTextFault true bytes e → (IsOutOfMemory e → (z : Zone) × IsExtendedZone bytes z)
    → IsExtendedFault bytes (error_number e)
extended_refused bytes e (inl is) memory = let zone = memory is in rw is (IsExtendedFault.No_memory zone.0 zone.1)
extended_refused bytes e (inr there) memory = IsExtendedFault.In_string e there

pub reader_number : (e : Error) → IsReaderNumber (error_number e)
reader_number e = grind arith

pub detail_in_range : (e : Error) → IsReaderNumber (detail_number e)
detail_in_range (errors.TimeZone what) = grind arith
detail_in_range e = grind arith

-- if there is no memory for a zone that is spelled, that is the fault
no_memory : (kind : Kind) (bytes : List ℕ) (z : Zone) → SpellsZone kind bytes z → IsFault kind bytes 17
no_memory kinds.File bytes z spells = let has = file_pieces bytes z spells.0 in IsFileError.In_file errors.OutOfMemory (IsZoneFault.No_memory has.0 has.1)
no_memory kinds.Text bytes z spells = IsStringError.No_memory z spells.0 spells.1
no_memory kinds.ExtendedText bytes z spells = IsExtendedFault.No_memory z spells

pub no_memory_refused : (number : ℕ) (bytes : List ℕ) (z : Zone) → IsZoneOf number bytes z → IsErrorOfKind number bytes 17
no_memory_refused number bytes z of_kind = grind (arith, IsErrorOfKind.Not_read, no_memory)

-- bytes that are refused are why the call is
pub not_read : (number : ℕ) (bytes : List ℕ) (kind : Kind) (read : Result Zone Refusal) → number ≡ kind_number kind
    → IfErr read (λ e. IsFault kind bytes (refusal_number e)) → IfErr read (λ e. IsReaderNumber (refusal_number e))
    → IfErr read (λ e. IsErrorOfKind number bytes (refusal_number e))
not_read number bytes kind read is fault reader = grind (arith, IsErrorOfKind.Not_read)

-- why bytes are rejected
pub ruleset rejections = (In_file, Not_utf8, Unknown_kind, not_read, reader_number, detail_in_range)
