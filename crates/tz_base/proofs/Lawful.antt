-- What a grammar reads is what it spells, or the error of its fault.
use Rattle.std.proofs.Common.{Bool, List, arith, drop, length, refl, take, ℕ, [], ◌++◌, ◌∷◌, ◌≡◌, ◌≤◌}
use Rattle.std.proofs.{Math.Seq.{take-append_seam}, lemmas.{Bool.Decides.{nat_tests}, List.{length-append, length-take, take-append-drop}, Int.{ints}}}
use Rattle.std.specs.Bool.{Decides}
use Rattle.tz_base.specs.{Errors.{error_number}}
use Rattle.tz_base.specs.Fronts.{AllOf, NoneFirst, after_run, exact_at, int_at, is_digit, optional_tag_at, run_of, tag_at}
use Rattle.tz_base.specs.Grammar.{At, Byte, Check, Ended, Exact, Grammar, HasFault, Here, Inside, IsRun, Marked, Nothing, Number}
use Rattle.tz_base.specs.{Grammar.{Refused, Rest, Run, Spells, Then, is_end, read}, Refusals.{Refusal, error}}
use Rattle.tz_base.proofs.{Decided.{Decided, and_then, choice, guard, made, refused, said}, ReadLaws.{drop_front}}

-- what the grammar reads is what it spells, or the error of its fault
abbrev pub Lawful : {X : Type 0} → Grammar X → Type 0
Lawful {X} g = (bytes : List ℕ) → Decided (X × List ℕ) (read g bytes) (λ p. Spells g bytes p.0 p.1) (HasFault g bytes)

low : (refusal : Refusal) → error_number (error refusal) ≤ 16
low refusal = grind (arith, ints)

-- ---- the end
pub end_is : (bytes : List ℕ) → Decides (is_end bytes) (bytes ≡ [])
end_is bytes = grind (arith, ints)

-- ---- runs
pub run_splits : (p : ℕ → Bool) (bs : List ℕ) → IsRun p bs (run_of p bs) (after_run p bs)
run_splits p [] = grind arith
run_splits p (b ∷ bs) = grind (arith, run_splits p bs)

pub run_again : (p : ℕ → Bool) (bs rest : List ℕ) → AllOf p bs → NoneFirst p rest → (run_of p (bs ++ rest) ≡ bs) × (after_run p (bs ++ rest) ≡ rest)
run_again p [] rest h k = grind arith
run_again p (d ∷ ds) rest h k = grind (arith, run_again p ds rest h.1 k)

-- ---- n bytes
pub exact_cut : (n : ℕ) (bytes some rest : List ℕ) → bytes ≡ some ++ rest → length some ≡ n → (take n bytes ≡ some) × (drop n bytes ≡ rest)
exact_cut n bytes some rest whole size = rw (whole, ← size) (take-append_seam some rest, drop_front some rest)

-- ---- every grammar
pub lawful : {X : Type 0} (g : Grammar X) → Lawful g
unfolding exact_at int_at optional_tag_at tag_at
lawful (Nothing v) bytes = grind arith
lawful (Then g f) bytes = and_then (lawful g bytes) (λ x rest _. lawful (f x) rest)
lawful (Marked tag g h) bytes = let first = λ (s : List ℕ). lawful g s in let other = λ (s : List ℕ). lawful h s in grind arith
lawful (Ended g h) bytes = choice (end_is bytes) (lawful g bytes) (lawful h bytes)
lawful (Byte tag) bytes = grind arith
lawful (Run p) bytes = grind (arith, run_splits p bytes, run_again p)
lawful (Number max) bytes = grind (arith, run_splits is_digit bytes, run_again is_digit, nat_tests)
lawful (Exact n) bytes = grind (arith, ints, take-append-drop, length-take, exact_cut, length-append)
lawful Rest bytes = grind arith
lawful (Refused refusal) bytes = refused (error refusal) (low refusal)
lawful (Check P test refusal v) bytes =
    said (made (λ x. (x, bytes)) (guard v (error refusal) (low refusal) test.decides)) (λ y h. (h.1.0, cc, cc)) (λ y h. (v, (h.0, refl), grind arith))
lawful (Here f) bytes = lawful (f bytes) bytes
lawful (At place g) bytes = lawful g bytes
lawful (Inside part from g) bytes =
    said (made (λ p. (p.0, bytes)) (lawful g part)) (λ y h. rw (← h.2) (h.0.1, h.1, refl)) (λ y h. ((y.0, h.0), h.1, grind arith))
