-- Ways from a stamp, by equal numbers.
use Rattle.zoned_round.proofs.Words.{IsGone, numbers, unsigned_abs, ℕ, ℤ, ◌-ℤ◌, ◌≡◌}

-- the way that was gone is the one from this stamp
pub gone : {T : Type 0} (IsMoved : ℤ → T → Type 0) (choose : ℤ → ℕ → ℤ) (value answer : T) (n span way stamp length : ℤ)
    → n ≡ stamp → span ≡ length → way ≡ choose n (unsigned_abs span) -ℤ n
    → IsGone IsMoved way value answer → IsGone IsMoved (choose stamp (unsigned_abs length) -ℤ stamp) value answer
gone = grind numbers
