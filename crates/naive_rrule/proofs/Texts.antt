-- Readers of the text of a rule.
use Rattle.std.proofs.{Common.{Bool, arith, ◌≡◌, ◌≢◌, ℕ, List, [], ◌∷◌, ◌++◌, ◌+◌, ◌<◌, ◌≤◌, length, drop, take, get_or, true, false, Option, Some, None, Result, Ok, Err, refl}, lemmas.List.{drop_all, drop_more}}
use Rattle.naive_rrule.specs.RuleTexts.{after_of, front_of, is_word, pieces}

-- ---- words
pub word_length : (bs ws : List ℕ) → length bs ≢ length ws → is_word bs ws ≡ false
word_length [] [] h = grind arith
word_length [] (w ∷ ws) h = refl
word_length (b ∷ bs) [] h = refl
word_length (b ∷ bs) (w ∷ ws) h = grind (arith, word_length bs ws)

-- ---- pieces
module _ (c : ℕ) where
  pub last_piece : (bs : List ℕ) → after_of c bs ≡ None → pieces c bs ≡ front_of c bs ∷ []
  last_piece [] h = refl
  last_piece (b ∷ bs) h = grind (arith, last_piece bs)

  pub next_piece : (bs more : List ℕ) → after_of c bs ≡ Some more → pieces c bs ≡ front_of c bs ∷ pieces c more
  next_piece [] more h = grind arith
  next_piece (b ∷ bs) more h = grind (arith, next_piece bs more)

  pub first_piece : (bs : List ℕ) → pieces c bs ≡ front_of c bs ∷ drop 1 (pieces c bs)
  first_piece [] = refl
  first_piece (b ∷ bs) = grind (arith, first_piece bs)

  pub piece_lengths : (bs more : List ℕ) → after_of c bs ≡ Some more → length bs ≡ length (front_of c bs) + 1 + length more
  piece_lengths [] more h = grind arith
  piece_lengths (b ∷ bs) more h = grind (arith, piece_lengths bs more)

  pub piece_length : (bs : List ℕ) → length (front_of c bs) ≤ length bs
  piece_length [] = grind arith
  piece_length (b ∷ bs) = grind (arith, piece_length bs)

pub ruleset steps = (drop_more, drop_all, word_length)

pub ruleset parts = (first_piece, last_piece, next_piece, piece_lengths, piece_length)
