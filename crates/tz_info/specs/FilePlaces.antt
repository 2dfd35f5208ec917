-- The position of the fault of a TZif file: the number of bytes in front of it (RFC 8536 section 3). A file that is too short
-- is at fault at its end, and any other at the first byte of the field whose value is rejected.
use Rattle.std.specs.Prelude.{ℕ, ◌≡◌, ◌+◌, ◌*◌, ◌-◌, ◌<◌, ◌≤◌, ◌⊎◌, List, length, drop, slice_index, ◌≤ℤ◌}
use Rattle.std.specs.Char.{is_ascii_whitespace}
use Rattle.tz_base.specs.{Fronts.{after_run}, Grammar.{HasFault, fault_position}, declared.error.Error.{Error}}
use Rattle.tz_file.specs.FileContents.{time_at, leap_at}
use Rattle.tz_info.specs.{Leaps.{IsFirstLeap, IsNextLeap}, TzFiles.{IsTzFile, tz_file}, Zones.{Zone}}
use Rattle.tz_file.specs.FilePieces.{FilePieces, HasPieces, footer_bytes, from_leap_seconds, from_type_indexes, from_times}

-- k is the first of the numbers below n of which P holds
pub record IsFirstBelow (P : ℕ → Type 0) (n k : ℕ) : Type 0 where
  pub below : k < n
  pub here : P k
  pub before : (j : ℕ) → j < k → ¬ (P j)

-- P holds of no number below n
abbrev pub HoldsOfNone : (ℕ → Type 0) → ℕ → Type 0
HoldsOfNone P n = (k : ℕ) → k < n → ¬ (P k)

-- ---- lists that make no zone
-- the transition's type index refers to no type
abbrev pub IsOtherIndex : FilePieces → ℕ → Type 0
IsOtherIndex p k = p.counts.types ≤ slice_index p.parts.type_indexes k

-- its time isn't later than the one before it
abbrev pub IsNotLater : FilePieces → ℕ → Type 0
IsNotLater p k = (0 < k) × (time_at p k ≤ℤ time_at p (k - 1))

-- the leap second may not be the first one, or may not follow the one before it
abbrev pub IsOtherLeap : FilePieces → ℕ → Type 0
IsOtherLeap p k = ((k ≡ 0) × ¬ (IsFirstLeap (leap_at p k))) ⊎ ((0 < k) × ¬ (IsNextLeap (leap_at p (k - 1)) (leap_at p k)))

-- of lists with a fault, the bytes from it on: from the first type index that refers to no type; else from the first time that
-- isn't later; else from the first leap second out of order; else from the footer's text, whose rule doesn't agree with the last transition
pub data IsListPlace (p : FilePieces) : List ℕ → Type 0 where
  At_index : (k : ℕ) → IsFirstBelow (IsOtherIndex p) p.counts.transitions k → IsListPlace p (drop k (from_type_indexes p))
  At_time : (k : ℕ) → HoldsOfNone (IsOtherIndex p) p.counts.transitions → IsFirstBelow (IsNotLater p) p.counts.transitions k
      → IsListPlace p (drop (k * p.time_size) (from_times p))
  At_leap : (k : ℕ) → HoldsOfNone (IsOtherIndex p) p.counts.transitions → HoldsOfNone (IsNotLater p) p.counts.transitions
      → IsFirstBelow (IsOtherLeap p) p.counts.leap_seconds k → IsListPlace p (drop (k * (p.time_size + 4)) (from_leap_seconds p))
  At_rule : HoldsOfNone (IsOtherIndex p) p.counts.transitions → HoldsOfNone (IsNotLater p) p.counts.transitions
      → HoldsOfNone (IsOtherLeap p) p.counts.leap_seconds → IsListPlace p (after_run is_ascii_whitespace (footer_bytes p.footer))

-- of a file with a fault: that of its grammar, or else in the lists that it says
pub data IsFilePlace (bytes : List ℕ) : ℕ → Type 0 where
  In_spelling : (e : Error) → HasFault tz_file bytes e → IsFilePlace bytes (fault_position tz_file bytes)
  In_lists : (p : FilePieces) (z : Zone) (from : List ℕ) → HasPieces bytes p → IsTzFile bytes z → IsListPlace p from
      → IsFilePlace bytes (length bytes - length from)
