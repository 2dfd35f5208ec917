-- Tests of numbers, and tests made of others. The type of each says what it tests.
use Rattle.std.specs.Prelude.{ℕ, ℤ, ◌≡◌, ◌≢◌, ◌≤◌, ◌≤ℤ◌, ◌<ℤ◌, ◌⊎◌, ◌==◌, nat_le, int_le, int_lt, not, ◌&&◌, ◌||◌}
use Rattle.std.specs.Bool.{Decides}
use Rattle.std.proofs.Common.{arith}
use Rattle.std.proofs.lemmas.{Bool.{leb-true, le-leb}, Bool.Decides.{Decides-and, Decides-eqb, Decides-like, Decides-not, Decides-or}, Int.{ints}}
use Rattle.tz_base.specs.Tests.{Test}

abbrev pub equal : (n m : ℕ) → Test (n ≡ m)
equal n m = record { passes = n == m; decides = Decides-eqb n m }

abbrev pub unlike : (n m : ℕ) → Test (n ≢ m)
unlike n m = record { passes = not (n == m); decides = Decides-not _ (Decides-eqb n m) }

abbrev pub at_most : (n m : ℕ) → Test (n ≤ m)
at_most n m = record { passes = nat_le n m; decides = (leb-true n m, le-leb n m) }

pub is_no_greater : (n m : ℤ) → Decides (int_le n m) (n ≤ℤ m)
is_no_greater n m = (λ t. grind (arith, ints), λ le. grind (arith, ints))

abbrev pub no_greater : (n m : ℤ) → Test (n ≤ℤ m)
no_greater n m = record { passes = int_le n m; decides = is_no_greater n m }

pub is_less : (n m : ℤ) → Decides (int_lt n m) (n <ℤ m)
is_less n m = (λ t. grind (arith, ints), λ l. grind (arith, ints))

abbrev pub less : (n m : ℤ) → Test (n <ℤ m)
less n m = record { passes = int_lt n m; decides = is_less n m }

abbrev pub both : {P Q : Type 0} → Test P → Test Q → Test (P × Q)
both p q = record { passes = p.passes && q.passes; decides = Decides-and _ _ p.decides q.decides }

abbrev pub one_of : {P Q : Type 0} → Test P → Test Q → Test (P ⊎ Q)
one_of p q = record { passes = p.passes || q.passes; decides = Decides-or _ _ p.decides q.decides }

-- the test of what P implies and is implied by
abbrev pub alike : {P Q : Type 0} → (P → Q) → (Q → P) → Test P → Test Q
alike to from p = record { passes = p.passes; decides = Decides-like _ to from p.decides }

abbrev pub never_both : {P Q : Type 0} → Test P → Test Q → Test (P → ¬ Q)
never_both p q =
    alike (λ n x y. n (x, y)) (λ f (x, y). f x y) (record { passes = not (both p q).passes; decides = Decides-not _ (both p q).decides })

abbrev pub three : {P Q R : Type 0} → Test P → Test Q → Test R → Test (P × Q × R)
three p q r = alike (λ (a, (b, c)). (a, b, c)) (λ (a, b, c). (a, (b, c))) (both p (both q r))

-- whether a number lies between two others or is one of them
abbrev pub between : (first n last : ℕ) → Test ((first ≤ n) × (n ≤ last))
between first n last = both (at_most first n) (at_most n last)
