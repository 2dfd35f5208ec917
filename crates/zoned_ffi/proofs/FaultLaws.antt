-- The position of the fault of a TZ string or a file.
use Rattle.std.specs.{Option.{unwrap_or}, Prelude.{MatchOption, Option, Some, None, Result, Ok, Err, IfOk, IfErr, true, ℕ, ◌≡◌, ◌⊎◌, List}}
use Rattle.tz_base.specs.declared.{error.Error.{Error}, parse_error.ParseError.{ParseError}}
use Rattle.tz_info.{proofs.{ForCallers.{file_fault_or_zone, string_fault_or_rule}, TzFileLaws.{fault_low}}, specs.FilePlaces.{IsFilePlace}}
use Rattle.tz_info.specs.{PosixZones.{IsExtendedFaultPlace, IsExtendedZone, IsPlaced, IsPosixFaultPlace}, TzGrammar.{IsTextFault}, TzFiles.{IsTzFile}}
use Rattle.tz_info.specs.{TzFiles.IsZoneFault.{In_file as Of_file, No_memory as Of_memory}, Zones.{IsValid}}
use Rattle.zoned_ffi.proofs.Words.{IsOutOfMemory, IsPosixFault, IsPosixZone, IsUtf8, IsZoneFault, Zone, arith, inl, inr, refl}
use Rattle.zoned_ffi.specs.FaultPlaces.{IsFaultPosition, no_position, position_of, IsFaultPosition.{File_zone, In_file, In_string, In_text, No_kind, No_memory}}
use Rattle.zoned_ffi.specs.{FaultPlaces.IsFaultPosition.{String_zone, Text_zone}, Kinds.{IsKind}}

-- of some bytes
module _ (bytes : List ℕ) where
  -- ---- what was read has its fault there, or is a zone
  text_placed : (error : Error) (o : Option ℕ) → IsUtf8 bytes → IsOutOfMemory error ⊎ IsPosixFault bytes error
      → MatchOption o (IsOutOfMemory error) (λ p. ¬ (IsOutOfMemory error) × IsPosixFaultPlace bytes p)
      → (IsOutOfMemory error → (z : Zone) × IsPosixZone bytes z) → IsFaultPosition 1 bytes (unwrap_or o no_position)
  text_placed error None utf8 fault place memory = let zone = memory place in Text_zone zone.0 refl utf8 zone.1
  text_placed error (Some p) utf8 (inl is) place memory = absurd (place.0 is)
  text_placed error (Some p) utf8 (inr fault) place memory = In_text error p refl utf8 fault place.1

  pub text_place : (r : Result Zone ParseError) → IsUtf8 bytes → IfOk r (λ z. IsPosixZone bytes z)
      → IfErr r (λ e. IsOutOfMemory e.error ⊎ IsPosixFault bytes e.error)
      → IfErr r (λ e. IsPlaced (IsPosixFaultPlace bytes) e) → IfErr r (λ e. IsOutOfMemory e.error → (z : Zone) × IsPosixZone bytes z)
      → IsFaultPosition 1 bytes (position_of r)
  text_place (Ok z) utf8 found fault place memory = Text_zone z refl utf8 found
  text_place (Err e) utf8 found fault place memory = text_placed e.error e.position utf8 fault place memory

  string_placed : (error : Error) (o : Option ℕ) → IsOutOfMemory error ⊎ IsTextFault true bytes error
      → MatchOption o (IsOutOfMemory error) (λ p. ¬ (IsOutOfMemory error) × IsExtendedFaultPlace bytes p)
      → (IsOutOfMemory error → (z : Zone) × IsExtendedZone bytes z) → IsFaultPosition 2 bytes (unwrap_or o no_position)
  string_placed error None fault place memory = let zone = memory place in String_zone zone.0 refl zone.1
  string_placed error (Some p) (inl is) place memory = absurd (place.0 is)
  string_placed error (Some p) (inr fault) place memory = rw place.1 (In_string error refl fault)

  pub string_place : (r : Result Zone ParseError) → IfOk r (λ z. IsExtendedZone bytes z)
      → IfErr r (λ e. IsOutOfMemory e.error ⊎ IsTextFault true bytes e.error)
      → IfErr r (λ e. IsPlaced (IsExtendedFaultPlace bytes) e) → IfErr r (λ e. IsOutOfMemory e.error → (z : Zone) × IsExtendedZone bytes z)
      → IsFaultPosition 2 bytes (position_of r)
  string_place (Ok z) found fault place memory = String_zone z refl found
  string_place (Err e) found fault place memory = string_placed e.error e.position fault place memory

  file_placed : (error : Error) (o : Option ℕ) → IsZoneFault bytes error
      → MatchOption o (IsOutOfMemory error) (λ p. ¬ (IsOutOfMemory error) × IsFilePlace bytes p) → IsFaultPosition 0 bytes (unwrap_or o no_position)
  file_placed error None (Of_file e fault) place = let low = fault_low bytes e fault in absurd (omega arith)
  file_placed error None (Of_memory p whole) place = No_memory p refl whole
  file_placed error (Some p) (Of_file e fault) place = In_file e p refl fault place.1
  file_placed error (Some p) (Of_memory q whole) place = absurd (place.0 refl)

  pub file_place : (r : Result Zone ParseError) → IfOk r (λ z. IsTzFile bytes z × IsValid z) → IfErr r (λ e. IsZoneFault bytes e.error)
      → IfErr r (λ e. IsPlaced (IsFilePlace bytes) e) → IsFaultPosition 0 bytes (position_of r)
  file_place (Ok z) found fault place = File_zone z refl found.0 found.1
  file_place (Err e) found fault place = file_placed e.error e.position fault place

  -- ---- the definition
  pub only_valid : (n : ℕ) (z : Zone) → IsTzFile bytes z → IsValid z → IsFaultPosition 0 bytes n → n ≡ no_position
  only_valid n z file valid at = grind (arith, file_fault_or_zone)

  pub only_zone : (n : ℕ) (z : Zone) → IsExtendedZone bytes z → IsFaultPosition 2 bytes n → n ≡ no_position
  only_zone n z spelled at = grind (arith, string_fault_or_rule)

-- ---- other kinds of bytes
pub no_kind : (kind : ℕ) (bytes : List ℕ) → ¬ (IsKind kind) → IsFaultPosition kind bytes no_position
no_kind kind bytes none = No_kind none
