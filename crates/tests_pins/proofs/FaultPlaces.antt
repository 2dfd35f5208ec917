-- Where small files are at fault, from what their grammar reads.
use Rattle.std.proofs.Common.{◌<◌, ◌-◌}
use Rattle.tz_base.specs.Grammar.{fault_position}
use Rattle.tz_info.proofs.{TzFileLaws.file_place_once, Words.{Zone, inl, inr}}
use Rattle.tz_file.specs.{FileContents.{leap_at}, FilePieces.{FilePieces}}
use Rattle.tz_info.specs.{Leaps.{IsFirstLeap}, TzFiles.{tz_file}}
use Rattle.tz_info.specs.FilePlaces.{HoldsOfNone, In_lists, In_spelling, IsFilePlace, IsFirstBelow, IsListPlace, IsOtherLeap}
use Rattle.tests_pins.proofs.Words.{Err, Error, List, None, Ok, Result, arith, false, file, ints, lawful, length, pos, read, subst, suc, zero, ℕ, ℤ, [], ◌≡◌}
use Rattle.tests_pins.specs.FaultyFiles.{IsOnlyPlace}

placed : (bytes : List ℕ) (n : ℕ) → IsFilePlace bytes n → IsOnlyPlace bytes n
placed bytes n there = record { there = there; only = λ m other. file_place_once bytes m n other there }

-- the file spells no lists
pub in_file : (bytes : List ℕ) (e : Error) (n : ℕ) → read tz_file bytes ≡ Err e → fault_position tz_file bytes ≡ n → IsOnlyPlace bytes n
in_file bytes e n fails at = placed bytes n (subst (λ k. IsFilePlace bytes k) at (In_spelling e ((lawful tz_file bytes).fails e fails)))

-- the pieces that were read
abbrev no_pieces : FilePieces
no_pieces = record {
  extended = false;
  time_size = 0;
  counts = record { ut_local = 0; standard_wall = 0; leap_seconds = 0; transitions = 0; types = 0; designations = 0 };
  parts = record { times = []; type_indexes = []; types = []; designations = []; leap_seconds = []; standard_wall = []; ut_local = [] };
  footer = None;
}

abbrev pub pieces_in : Result (FilePieces × List ℕ) Error → FilePieces
pieces_in (Ok r) = r.0
pieces_in (Err e) = no_pieces

abbrev pub pieces_of : List ℕ → FilePieces
pieces_of bytes = pieces_in (read file bytes)

-- the lists make no zone
pub in_lists : (bytes : List ℕ) (z : Zone) (from : List ℕ) (n : ℕ) → read file bytes ≡ Ok (pieces_of bytes, []) → read tz_file bytes ≡ Ok (z, [])
    → IsListPlace (pieces_of bytes) from → length bytes - length from ≡ n → IsOnlyPlace bytes n
in_lists bytes z from n pieces spells place at = placed bytes n (subst (λ k. IsFilePlace bytes k) at
    (In_lists (pieces_of bytes) z from ((lawful file bytes).takes (pieces_of bytes, []) pieces) ((lawful tz_file bytes).takes (z, []) spells) place))

-- ---- numbers below others
pub first_of_all : {P : ℕ → Type 0} {n : ℕ} → 0 < n → P 0 → IsFirstBelow P n 0
first_of_all some here = record { below = some; here = here; before = λ j l. absurd (omega (arith, l)) }

pub below_1 : (P : ℕ → Type 0) → (P 0 → ⊥) → HoldsOfNone P 1
below_1 P first zero l p = first p
below_1 P first (suc k) l p = absurd (omega (arith, l))

pub second_of_2 : {P : ℕ → Type 0} → (P 0 → ⊥) → P 1 → IsFirstBelow P 2 1
second_of_2 {P = P} first here = record { below = omega arith; here = here; before = below_1 P first }

pub below_2 : (P : ℕ → Type 0) → (P 0 → ⊥) → (P 1 → ⊥) → HoldsOfNone P 2
below_2 P first second zero l p = first p
below_2 P first second (suc zero) l p = second p
below_2 P first second (suc (suc k)) l p = absurd (omega (arith, l))

pub none_below_0 : (P : ℕ → Type 0) → HoldsOfNone P 0
none_below_0 P k l = absurd (omega (arith, l))

-- ---- leap seconds
pub not_other : (p : FilePieces) → IsFirstLeap (leap_at p 0) → IsOtherLeap p 0 → ⊥
not_other p first (inl h) = h.1 first
not_other p first (inr h) = absurd (omega (arith, h.0))

pub two_steps : {t : ℤ} → IsFirstLeap (record { unix_leap_time = t; correction = pos 2 }) → ⊥
two_steps f = let s = f.step in absurd (grind (arith, ints))
