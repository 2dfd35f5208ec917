-- Two lists of pieces, merged into one.
use Rattle.std.specs.Prelude.{ℕ, ◌≡◌, ◌+◌, ◌<◌, ◌⊎◌, List, length, slice_index_or, ℤ, ◌≤ℤ◌}
use Rattle.tz_info.specs.{Steps.{Shown.{together}, WallPieces.{AreInOrder, answer_at}}, declared.zone.made.{pieces.Piece.{Piece}, shown.Shown.{Shown}}}

-- what the pieces of earlier seconds and those of later ones give together
pub record IsMerged (before_first : Shown) (first : List Piece) (before_last : Shown) (last : List Piece) (pieces : List Piece) : Type 0 where
  pub ordered : AreInOrder pieces
  pub count : length pieces ≡ length first + length last
  pub answers : (local : ℤ) → answer_at (together before_first before_last) pieces local
      ≡ together (answer_at before_first first local) (answer_at before_last last local)

-- the piece at place i of xs comes before that at place j of ys, if there is one
pub record IsNext (xs : List Piece) (i : ℕ) (ys : List Piece) (j : ℕ) : Type 0 where
  pub inside : i < length xs
  pub least : (d : Piece) → j < length ys → (slice_index_or xs i d).start ≤ℤ (slice_index_or ys j d).start

-- the piece at place i of xs comes next, and starts there
pub record IsStepTo (xs : List Piece) (i : ℕ) (ys : List Piece) (j : ℕ) (start : ℤ) (i_after j_after : ℕ) : Type 0 where
  pub next : IsNext xs i ys j
  pub starts : (d : Piece) → start ≡ (slice_index_or xs i d).start
  pub passed : i_after ≡ i + 1
  pub stays : j_after ≡ j

-- the next piece of the two lists is passed
abbrev pub IsStep : List Piece → ℕ → List Piece → ℕ → ℤ → ℕ → ℕ → Type 0
IsStep xs i ys j start i_after j_after = IsStepTo xs i ys j start i_after j_after ⊎ IsStepTo ys j xs i start j_after i_after
