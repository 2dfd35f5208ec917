use Rattle.tz_saving.proofs.Words.{Both, IsOfTwo, Of_next, Usual, arith, inl, inr, ints, pos, refl, ℤ, ◌≡◌}
use Rattle.tests_pins.proofs.savings.two_amounts.Goals as goal

next_of : (a : ℤ) → IsOfTwo (λ n. n ≡ pos 1_800) (pos 3_600) (pos 1_800) a → a ≡ pos 1_800
next_of a (Both e h) = absurd (omega (arith, ints))
next_of a (Of_next n one h) = h
next_of a (Usual n x y h) = absurd (y refl)

usual_of : (a : ℤ) → IsOfTwo (λ n. n ≡ pos 5_400) (pos 3_600) (pos 1_800) a → a ≡ pos 3_600
usual_of a (Both e h) = h
usual_of a (Of_next n (inl e) h) = e
usual_of a (Of_next n (inr e) h) = absurd (omega (arith, ints))
usual_of a (Usual n x y h) = h

both_of : (a : ℤ) → IsOfTwo (λ n. n ≡ pos 5_400) (pos 1_800) (pos 1_800) a → a ≡ pos 1_800
both_of a (Both e h) = h
both_of a (Of_next n one h) = absurd (n refl)
both_of a (Usual n x y h) = absurd (n refl)

pub returns-clause-next_is : goal.returns-clause-next_is
returns-clause-next_is c = Of_next (λ e. omega (arith, ints)) (inr refl) refl

pub returns-clause-next : goal.returns-clause-next
returns-clause-next c = next_of

pub returns-clause-other_next_is : goal.returns-clause-other_next_is
returns-clause-other_next_is c = Usual (λ e. omega (arith, ints)) (λ e. omega (arith, ints)) (λ e. omega (arith, ints)) refl

pub returns-clause-other_next : goal.returns-clause-other_next
returns-clause-other_next c = usual_of

pub returns-clause-both_is : goal.returns-clause-both_is
returns-clause-both_is c = Both refl refl

pub returns-clause-both : goal.returns-clause-both
returns-clause-both c = both_of

pub returns-clause-only_one_is : goal.returns-clause-only_one_is
returns-clause-only_one_is c = refl

pub returns-clause-only_one : goal.returns-clause-only_one
returns-clause-only_one c = λ a h. h

pub returns-clause-two : goal.returns-clause-two
returns-clause-two c = λ a h. let e = h.0 in let l = h.1 in omega (arith, ints)

pub returns-clause-none : goal.returns-clause-none
returns-clause-none c = λ a h. h
