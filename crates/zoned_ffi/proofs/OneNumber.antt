-- A call that is rejected has one number, unless memory runs out.
use Rattle.tz_info.proofs.{ForCallers.{file_fault_once, text_fault_once}, PosixLaws.{one_fault as string_fault_once}}
use Rattle.tz_info.specs.TzFiles.IsZoneFault.{In_file as Of_file}
use Rattle.zoned_ffi.proofs.Words.{IsErrorOfKind, IsExtendedFault, IsFault, IsFileError, IsStringError, Kind, List, ap, arith, detail_number, error_number, inl}
use Rattle.zoned_ffi.{proofs.Words.{inr, refl, ℕ, ◌≡◌, ◌⊎◌}, specs.Refusals.{IsFileError.{In_file}, IsStringError.{In_text, No_memory, Not_utf8}}}

abbrev Alike : ℕ → ℕ → Type 0
Alike m n = (m ≡ n) ⊎ (m ≡ 17) ⊎ (n ≡ 17)

file_alike : (bytes : List ℕ) (m n : ℕ) → IsFileError bytes m → IsFileError bytes n → Alike m n
file_alike bytes m n (In_file d (Of_file _ f)) (In_file e (Of_file _ g)) = inl (ap detail_number (file_fault_once bytes d e f g))
file_alike bytes m n f g = grind arith

text_alike : (bytes : List ℕ) (m n : ℕ) → IsStringError bytes m → IsStringError bytes n → Alike m n
text_alike bytes m n (No_memory _ _ _) g = inr (inl refl)
text_alike bytes m n f (No_memory _ _ _) = inr (inr refl)
text_alike bytes m n (Not_utf8 _) (Not_utf8 _) = inl refl
text_alike bytes m n (Not_utf8 bad) (In_text _ utf8 _) = absurd (bad utf8)
text_alike bytes m n (In_text _ utf8 _) (Not_utf8 bad) = absurd (bad utf8)
text_alike bytes m n (In_text d _ f) (In_text e _ g) = inl (ap error_number (text_fault_once bytes d e f g))

extended_alike : (bytes : List ℕ) (m n : ℕ) → IsExtendedFault bytes m → IsExtendedFault bytes n → Alike m n
extended_alike bytes m n f g = grind (arith, string_fault_once)

fault_alike : (k : Kind) (bytes : List ℕ) (m n : ℕ) → IsFault k bytes m → IsFault k bytes n → Alike m n
fault_alike k bytes m n f g = grind (arith, file_alike, text_alike, extended_alike)

pub one_number : (kind : ℕ) (bytes : List ℕ) (m n : ℕ) → IsErrorOfKind kind bytes m → IsErrorOfKind kind bytes n → Alike m n
one_number kind bytes m n f g = grind (arith, fault_alike)
