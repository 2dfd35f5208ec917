-- Lengths of time and their nanoseconds.
use Rattle.std.specs.{Ordering.{int_cmp, nat_cmp, ordering_then}, Prelude.{List, [], ◌∷◌, ◌++◌, fold, ◌+ℤ◌}}
use Rattle.offset_core.specs.{declared.time_delta.TimeDelta.{TimeDelta}, TimeDelta.{SumsFit}, Nanoseconds.{FitsTimeDelta}}
use Rattle.offset_core.proofs.Words.{AreParts, ap, arith, ints, nanos_of, props, subst, ℕ, ℤ, ◌≡◌}

AreParts-once : (secs : ℤ) (nanos : ℕ) → IsProp (AreParts secs nanos)
AreParts-once secs nanos = hlevel props

same_parts : (a b : TimeDelta) → a.secs ≡ b.secs → a.nanos ≡ b.nanos → a ≡ b
same_parts a b secs nanos =
    let SameAt : ℤ → ℕ → Type 0 = λ s n. (parts : AreParts s n) → a ≡ record { secs = s; nanos = n; in_range = parts } in
    let at_a : SameAt a.secs a.nanos = λ parts. ap (λ p. record a { in_range = p }) (AreParts-once a.secs a.nanos a.in_range parts) in
    subst (λ (s : ℤ). SameAt s b.nanos) secs (subst (SameAt a.secs) nanos at_a) b.in_range

-- lengths of the same nanoseconds are the same
pub one_delta : (a b : TimeDelta) → nanos_of a ≡ nanos_of b → a ≡ b
one_delta a b e = grind (arith, ints, same_parts)

pub order_of_parts : (a b : TimeDelta) → ordering_then (int_cmp a.secs b.secs) (nat_cmp a.nanos b.nanos) ≡ int_cmp (nanos_of a) (nanos_of b)
order_of_parts a b = grind (arith, ints)

-- each sum of lengths with one more is in range, if and only if those of the lengths are, and the last sum is
pub sums_join : (total : ℤ) (xs : List TimeDelta) (d : TimeDelta) → SumsFit total xs
    → FitsTimeDelta (fold (λ sum delta. sum +ℤ nanos_of delta) total xs +ℤ nanos_of d) → SumsFit total (xs ++ (d ∷ []))
sums_join total [] d fit last = (last, tt)
sums_join total (x ∷ xs) d fit last = (fit.0, sums_join (total +ℤ nanos_of x) xs d fit.1 last)

pub sums_split : (total : ℤ) (xs : List TimeDelta) (d : TimeDelta) → SumsFit total (xs ++ (d ∷ []))
    → SumsFit total xs × FitsTimeDelta (fold (λ sum delta. sum +ℤ nanos_of delta) total xs +ℤ nanos_of d)
sums_split total [] d fit = (tt, fit.0)
sums_split total (x ∷ xs) d fit = let h = sums_split (total +ℤ nanos_of x) xs d fit.1 in ((fit.0, h.0), h.1)
