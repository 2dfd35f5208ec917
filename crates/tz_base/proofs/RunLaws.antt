-- Longest runs, and the values of digits.
use Rattle.std.proofs.Common.{Bool, List, arith, false, get_or, length, subst, suc, sym, true, ℕ, [], ◌*◌}
use Rattle.std.proofs.{Common.{◌++◌, ◌+◌, ◌-◌, ◌<◌, ◌∷◌, ◌≡◌, ◌≤◌}, lemmas.Bool.Decides.{nat_tests}}
use Rattle.std.proofs.lemmas.List.{drop_more}
use Rattle.std.specs.Fn.{FnReturnsAt}
use Rattle.tz_base.proofs.Lawful.{run_again}
use Rattle.tz_base.specs.{Fronts.{AllOf, NoneFirst, after_run, run_of, value_from}}
use denote.{Param.Members.{Shared}, Ref.{Bor}}

-- more digits make no smaller number
pub value_grows : (n : ℕ) (ds : List ℕ) → n ≤ value_from n ds
value_grows n [] = omega arith
value_grows n (d ∷ ds) = let h = value_grows (10 * n + (d - 48)) ds in omega arith

pub all_of : (p : ℕ → Bool) (bs : List ℕ) → ((k : ℕ) → k < length bs → p (get_or bs k 0) ≡ true) → AllOf p bs
all_of p [] h = tt
all_of p (b ∷ bs) h = (h 0 (omega arith), all_of p bs (λ k l. h (suc k) (omega arith)))

none_first : (p : ℕ → Bool) (ys : List ℕ) → (0 < length ys → p (get_or ys 0 0) ≡ false) → NoneFirst p ys
none_first p [] stops = tt
none_first p (y ∷ ys) stops = stops (omega arith)

-- a run that passes, up to an end or to a byte that does not pass, is the longest one
pub runs_are : (p : ℕ → Bool) (bytes xs ys : List ℕ) → xs ++ ys ≡ bytes → ((k : ℕ) → k < length xs → p (get_or xs k 0) ≡ true)
    → (0 < length ys → p (get_or ys 0 0) ≡ false) → (xs ≡ run_of p bytes) × (ys ≡ after_run p bytes)
runs_are p bytes xs ys e passes stops =
    let r = run_again p xs ys (all_of p xs passes) (none_first p ys stops) in (rw (← e) (sym r.0), rw (← e) (sym r.1))

-- a number grows with each digit, and stays above its limit
pub ruleset grown = (drop_more, value_grows, nat_tests)

-- what a test says of a byte that it was called with, if each of its calls says p
pub tested : {F : Type 0} (g : Shared F (Bor ℕ × Unit {0}) Bool) {f : F} {b : ℕ} {r : Bool} (p : ℕ → Bool)
    → ((shown : Bor ℕ) → g.post f (shown, tt) r → r ≡ p shown.now) → FnReturnsAt g f b r → p b ≡ r
tested g {r = r} p each h = subst (λ k. p k ≡ r) h.shows (sym (each h.shown h.says.met))
