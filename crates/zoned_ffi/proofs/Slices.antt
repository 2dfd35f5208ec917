-- Slices that are written one place after the other.
use Rattle.zoned_ffi.proofs.Words.{AllZip, List, arith, get_or, length, length-set, pos, slice_set, suc, take, to_z-of_z, zero, ℕ, ℤ, ◌+◌, ◌<◌, ◌∷◌, ◌≡◌}
use Rattle.zoned_ffi.proofs.Words.{drop, drop-drop, drop-set-lt, ◌-◌, ◌≤◌}

zip_step : {A B : Type 0} (R : A → B → Type 0) (xs : List A) (ys : List B) (i : ℕ) (d : A) (y : B) → length ys ≡ length xs → i < length xs
    → AllZip R (take i xs) (take i ys) → R (get_or xs i d) y → AllZip R (take (suc i) xs) (take (suc i) (slice_set ys i y))
zip_step R (x ∷ xs) (z ∷ zs) zero d y as_many within before this = (this, tt)
zip_step R (x ∷ xs) (z ∷ zs) (suc i) d y as_many within before this = grind (arith, zip_step R xs zs i d y)
zip_step R xs ys i d y as_many within before this = grind arith

-- the answer to the question at the place i is written after those before it
pub zip_more : {B : Type 0} (R : ℤ → B → Type 0) (xs : List ℤ) (ys : List B) (i : ℕ) (y : B) → length ys ≡ length xs → i < length xs
    → AllZip R (take i xs) (take i ys) → R (get_or xs i (pos 0)) y → AllZip R (take (i + 1) xs) (take (i + 1) (slice_set ys i y))
zip_more R xs ys i y as_many within before this = grind (arith, zip_step R xs ys i (pos 0) y)

-- what two columns share after a place they share after a later one too
pub same_after : {B : Type 0} (xs ys : List B) (i j : ℕ) → i ≤ j → drop i xs ≡ drop i ys → drop j xs ≡ drop j ys
same_after xs ys i j less same = grind (arith, drop-drop (j - i) i xs, drop-drop (j - i) i ys)

-- and after the place that is written next
pub written_after : {B : Type 0} (xs ys : List B) (i : ℕ) (y : B) → drop i xs ≡ drop i ys → drop (i + 1) (slice_set xs i y) ≡ drop (i + 1) ys
written_after xs ys i y same = grind (arith, drop-set-lt, same_after xs ys i (i + 1))

pub ruleset written_rows = (to_z-of_z, length-set, zip_more)
