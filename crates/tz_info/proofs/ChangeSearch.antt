-- The first and the last change among seconds, and in a stretch.
use Rattle.std.specs.Bool.{Decides}
use Rattle.tz_info.proofs.{
  Words.{Bool, Change, HasNoChange, IfSome, IsAhead, IsChange, IsIdle, IsInStretch, IsNearest, IsOneOf, IsStretchAhead, List, LocalType, MatchOption, Option},
  Words.{SFits, Some, arith, false, get_or, inl, inr, linear, near_end, nearer_one, pos, suc, true, type_exact, unsigned_abs, w64, zero, ℕ, ℤ, ◌+ℤ◌, ◌+◌, ◌-ℤ◌},
  Words.{◌<ℤ◌, ◌↔◌, ◌≡◌, ◌≢◌, ◌≤ℤ◌, ◌⊎◌},
}

abbrev pub InForce : Type 1
InForce = ℤ → LocalType → Type 0

-- one of the first n, or the one at place n
one_more : (seconds : List ℤ) (n : ℕ) (after last u : ℤ) → IsOneOf seconds (n + 1) after last u
    ↔ (IsOneOf seconds n after last u ⊎ ((get_or seconds n (pos 0) ≡ u) × IsInStretch after last u))
one_more _ n _ _ u = (λ one. grind arith, λ h. elim h [ inl one ↦ grind arith | inr here ↦ grind arith ])

-- the same changes, by other conditions
pub nearest_moved : (w : Bool) (f g : InForce) (p q : ℤ → Type 0) (found : Option Change) → ((d : Change) → IsChange g d → q d.at → IsChange f d × p d.at)
    → ((d : Change) → IsChange f d → p d.at → IsChange g d × q d.at)
    → IsNearest w f p found → IsNearest w g q found
nearest_moved w f g p q found to from h = grind linear

-- of the nearest change of some seconds and that of others the one that comes first is the nearest one of all
pub nearest_either : (w : Bool) (f : InForce) (p q : ℤ → Type 0) (found other : Option Change) → IsNearest w f p found → IsNearest w f q other
    → IsNearest w f (λ u. p u ⊎ q u) (nearer_one w found other)
nearest_either w f p q found other h k = grind linear

-- one second, of which is known whether it has a change in the stretch
abbrev pub IsAsked : InForce → ℤ → ℤ → ℤ → Option Change → Type 0
IsAsked f after last second other = MatchOption other (IsIdle f after last second) (λ c. IsChange f c × (c.at ≡ second) × IsInStretch after last second)

pub asked : (w : Bool) (f : InForce) (after last second : ℤ) (other : Option Change) → IsAsked f after last second other
    → IsNearest w f (λ u. (second ≡ u) × IsInStretch after last u) other
asked w f after last second other h = grind linear

-- one second more
pub nearest_more : (w : Bool) (f : InForce) (seconds : List ℤ) (n : ℕ) (after last : ℤ) (found other : Option Change)
    → IsAsked f after last (get_or seconds n (pos 0)) other
    → IsNearest w f (IsOneOf seconds n after last) found → IsNearest w f (IsOneOf seconds (n + 1) after last) (nearer_one w found other)
nearest_more w f _ n _ _ _ _ told h =
    nearest_moved w f f _ _ _
    (λ d is k. (is, (one_more _ n _ _ _).0 k))
    (λ d is k. (is, (one_more _ n _ _ _).1 k))
    (nearest_either w f _ _ _ _ h (asked w f _ _ _ _ told))

-- the stretch ahead of a second
pub in_ahead : (w : Bool) (begin s after last u : ℤ) → SFits w64 u → IsStretchAhead w begin s after last
    → IsInStretch after last u ↔ ((begin <ℤ u) × IsAhead w s u)
in_ahead true _ s _ _ u fits e =
    let l = e.0 (u -ℤ pos 1) in grind linear
in_ahead false begin s after last u fits e = grind arith

-- its nearest change is the nearest one ahead of the second, of those after `begin`
pub nearest_ahead : (w : Bool) (f : InForce) (begin s after last : ℤ) (found : Option Change) → IsStretchAhead w begin s after last
    → IsNearest w f (IsInStretch after last) found → IsNearest w f (λ u. (begin <ℤ u) × IsAhead w s u) found
nearest_ahead w f begin s _ _ _ e = nearest_moved w f f _ (λ u. (begin <ℤ u) × IsAhead w s u) _
    (λ d is k. (is, (in_ahead w _ s _ _ _ is.fits e).1 k))
    (λ d is k. (is, (in_ahead w _ s _ _ _ is.fits e).0 k))

-- the nearest change ahead of a stretch's near end is its nearest one, if it lies in it
pub nearest_within : (w : Bool) (f : InForce) (after last : ℤ) (found r : Option Change) → IsNearest w f (IsAhead w (near_end w after last)) found
    → MatchOption r (IfSome found (λ c. IsInStretch after last c.at → ⊥)) (λ c. IsInStretch after last c.at × (found ≡ Some c))
    → IsNearest w f (IsInStretch after last) r
nearest_within w f after last found r h k = grind linear

-- an empty stretch has none
pub none_in_empty : (f : InForce) (after last : ℤ) → last ≤ℤ after → HasNoChange f (IsInStretch after last)
none_in_empty f _ _ h d is k = omega linear

-- ---- the change at one second
-- at each second one type is in force
abbrev pub IsOnce : InForce → Type 0
IsOnce f = (u : ℤ) (s t : LocalType) → f u s → f u t → s ≡ t

-- changes at one second are one
pub apart : (f : InForce) → IsOnce f → (c d : Change) → IsChange f c → IsChange f d → c.at ≡ d.at → c ≡ d
apart f once c d h k at = grind (linear, at)

pub change_made : (f : InForce) (second : ℤ) (s t : LocalType) (r : Option Change) → IsOnce f → SFits w64 second → SFits w64 (second -ℤ pos 1)
    → f (second -ℤ pos 1) s → f second t
    → MatchOption r (s ≡ t) (λ c. (s ≢ t) × (c ≡ record { at = second; before = s; after = t }))
    → MatchOption r (HasNoChange f (λ u. u ≡ second)) (λ c. IsChange f c × (c.at ≡ second))
change_made f second s t r h k l m n o = grind linear

-- no type is in force a second before, or at the second
pub none_before : (f : InForce) (second : ℤ) → ((t : LocalType) → f (second -ℤ pos 1) t → ⊥) → HasNoChange f (λ u. u ≡ second)
none_before f _ without d is at = grind (linear, at)

pub none_here : (f : InForce) (second : ℤ) → ((t : LocalType) → f second t → ⊥) → HasNoChange f (λ u. u ≡ second)
none_here f _ without d is at = grind (linear, at)

-- ---- without a change the type stays
-- some type is in force at the second
abbrev pub Typed : InForce → ℤ → Type 0
Typed f u = (t : LocalType) × f u t

pub decided : (P : Type 0) (b : Bool) → Decides b P → P ⊎ (P → ⊥)
decided P b h = grind linear

-- from one second to the next
pub stays : (f : InForce) (u v : ℤ) (t : LocalType) → SFits w64 u → SFits w64 v → u ≤ℤ v → HasNoChange f (λ w. (u <ℤ w) × (w ≤ℤ v))
    → ((w : ℤ) → u ≤ℤ w → w ≤ℤ v → Typed f w) → f u t → f v t
stays f u v t fits fits_end h none typed k = up (unsigned_abs (v -ℤ u)) v (omega linear) (omega linear)
  where
    up : (n : ℕ) (w : ℤ) → w ≡ u +ℤ pos n → w ≤ℤ v → f w t
    up zero w e l = let same : w ≡ u = omega linear in rw same k
    up (suc n) w e l =
        let before = up n (w -ℤ pos 1) (omega linear) (omega linear) in
        let (s, here) = typed w (omega linear) l in
        elim (decided _ _ (type_exact t s)) [
          | inl same ↦ rw same here
          | inr differ ↦ absurd (none (record { at = w; before = t; after = s }) (grind linear) (omega linear, l))
        ]
