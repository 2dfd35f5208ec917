-- A number has one binary digit more than its half.
use Rattle.tz_search.proofs.Words.{ap, arith, digits, digits_within, refl, suc, zero, ℕ, ◌+◌, ◌/◌, ◌<◌, ◌≡◌, ◌≤◌}

-- more fuel than enough changes nothing
enough : (f g m : ℕ) → m ≤ f → m ≤ g → digits_within f m ≡ digits_within g m
enough zero zero _ _ _ = refl
enough zero (suc _) zero _ _ = refl
enough zero (suc g) (suc m) h k = omega arith
enough (suc _) zero zero _ _ = refl
enough (suc f) zero (suc m) h k = omega arith
enough (suc _) (suc _) zero _ _ = refl
enough (suc f) (suc g) (suc m) h k = ap suc (enough f g _ (omega arith) (omega arith))

pub digits-half : (m : ℕ) → digits (suc m) ≡ suc (digits (suc m / 2))
unfolding digits
digits-half m = ap suc (grind (arith, enough))

within_more : (f m n : ℕ) → m ≤ n → digits_within f m ≤ digits_within f n
within_more zero m n h = grind arith
within_more (suc f) m n h = grind (arith, within_more f (m / 2) (n / 2))

pub digits-more : (m n : ℕ) → m ≤ n → digits m ≤ digits n
unfolding digits
digits-more m n h = let e = enough m n m (omega arith) h in let k = within_more n m n h in omega arith

-- half or less has a digit less
pub digits-less : (m n : ℕ) → 0 < n → m ≤ n / 2 → digits m + 1 ≤ digits n
digits-less m zero p h = omega arith
digits-less m (suc n) p h = let e = digits-half n in let k = digits-more m _ h in omega arith

within-le : (f m : ℕ) → digits_within f m ≤ f
within-le zero m = grind arith
within-le (suc f) m = grind (arith, within-le f (m / 2))

pub digits-le : (m : ℕ) → digits m ≤ m
unfolding digits
digits-le m = within-le m m
