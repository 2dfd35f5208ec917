-- Offsets and their seconds.
use Rattle.offset_core.proofs.Words.{FixedOffset, IsOffsetOf, IsWithinDay, None, Option, Some, ap, props, seconds_of, subst, ℤ, ◌≡◌}

IsWithinDay-once : (secs : ℤ) → IsProp (IsWithinDay secs)
IsWithinDay-once secs = hlevel props

-- offsets of the same seconds are the same
pub one_offset : (a b : FixedOffset) → seconds_of a ≡ seconds_of b → a ≡ b
one_offset a b e =
    let SameAt : ℤ → Type 0 =
    λ secs. (within : IsWithinDay secs) → a ≡ record { local_minus_utc = secs; within_day = within } in
    let at_a : SameAt (seconds_of a) =
    λ within. ap (λ w. record a { within_day = w }) (IsWithinDay-once (seconds_of a) a.within_day within) in
    subst SameAt e at_a b.within_day

-- at most one answer is right for a number of seconds
pub one_offset_answer : (m n : ℤ) (x y : Option FixedOffset) → m ≡ n → IsOffsetOf m x → IsOffsetOf n y → x ≡ y
one_offset_answer m n (Some a) (Some b) e p q = ap Some (one_offset a b (cc))
one_offset_answer m n (Some a) None e p q = absurd (q (rw (← e) (p.0)))
one_offset_answer m n None (Some b) e p q = absurd (p (rw e (q.0)))
one_offset_answer m n None None e p q = cc
