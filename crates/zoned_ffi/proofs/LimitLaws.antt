-- Files above the limits of a caller.
use Rattle.std.proofs.lemmas.Option.{none-some, same_Some}
use Rattle.tz_info.proofs.{Words.{◌↔◌, FilePieces}, TzFileLaws.{one_pieces}}
use Rattle.zoned_ffi.proofs.Words.{FileCounts, HasCounts, IsAboveLimits, List, None, Some, arith, inl, inr, refl, ap, sym, ℕ, ◌<◌, ◌∙◌, ◌≡◌, ◌⊎◌}
use Rattle.zoned_ffi.specs.Kinds.{kind_number}
use Rattle.zoned_ffi.specs.declared.kind.Kind.TheVariants as kinds

module _ (kind : ℕ) (bytes : List ℕ) (m n : ℕ) where
  -- the counts of a file say whether it is above the limits
  pub above_by : (c : FileCounts) → kind ≡ kind_number kinds.File → ((d : FileCounts) → (Some c ≡ Some d) ↔ HasCounts bytes d)
      → ((m < c.transitions) ⊎ (n < c.leap_seconds)) ↔ IsAboveLimits kind bytes m n
  above_by c is has = (
    λ more. record { of_file = is; counts = c; has = (has c).0 refl; above = more },
    λ k. rw (← same_Some c k.counts ((has k.counts).1 k.has)) at k.above,
  )

  -- a file without them is not
  pub none_above : ((d : FileCounts) → (None ≡ Some d) ↔ HasCounts bytes d) → IsAboveLimits kind bytes m n → ⊥
  none_above has k = none-some k.counts ((has k.counts).1 k.has)

-- a file has one pair of counts
counts_once : (bytes : List ℕ) (c d : FileCounts) → HasCounts bytes c → HasCounts bytes d → (c.transitions ≡ d.transitions) × (c.leap_seconds ≡ d.leap_seconds)
counts_once bytes c d h k = let one = one_pieces bytes h.pieces k.pieces h.has k.has in (
  h.transitions_are ∙ ap (λ (x : FilePieces). x.counts.transitions) one ∙ sym k.transitions_are,
  h.leap_seconds_are ∙ ap (λ (x : FilePieces). x.counts.leap_seconds) one ∙ sym k.leap_seconds_are,
)

-- at the limits it is not above them, and one entry more is
pub as_many : (bytes : List ℕ) (c : FileCounts) → HasCounts bytes c → IsAboveLimits 0 bytes c.transitions c.leap_seconds → ⊥
as_many bytes c h k = let same = counts_once bytes c k.counts h k.has in grind arith

pub more_transitions : (bytes : List ℕ) (c : FileCounts) → HasCounts bytes c → c.transitions ≡ 1 → IsAboveLimits 0 bytes 0 c.leap_seconds
more_transitions bytes c h one = record { of_file = refl; counts = c; has = h; above = inl (omega arith) }

pub more_leap_seconds : (bytes : List ℕ) (c : FileCounts) → HasCounts bytes c → c.leap_seconds ≡ 1 → IsAboveLimits 0 bytes c.transitions 0
more_leap_seconds bytes c h one = record { of_file = refl; counts = c; has = h; above = inr (omega arith) }
