-- A second has one amount, which is what the code finds.
use Rattle.tz_info.proofs.ChangeSearch.{InForce, IsOnce}
use Rattle.tz_saving.proofs.{
  SideLaws.{Once, candidates_once, the_found},
  Words.{AreCandidates, AreTurnsFar, Change, IsAmount, IsByCandidates, IsFlaggedAmount, IsFound, IsNearestTurn, IsNextCandidate, IsNextUse, IsOfTwo},
  Words.{IsOnly, IsSavingAt, LocalType, None, Option, Saving, Some, TransitionRule, TypeAt, Zone, arith, linear, true, type_once, ℤ, ◌≡◌},
}

-- there is one amount by the candidates
by_candidates_once : (is_next : ℤ → Type 0) (once : Once is_next) (p q : Option ℤ) → Once (IsByCandidates is_next p q)
by_candidates_once is_next once p q a b h k = grind arith

next_once : (f : InForce) (t : LocalType) (u : ℤ) (c d : Change) → IsNextUse f t u c → IsNextUse f t u d → c.at ≡ d.at
next_once f t u c d h k = grind linear

-- a second has one type
module _ (f : InForce) (one : IsOnce f) (rule : Option TransitionRule) where
  next_candidate_once : (t : LocalType) (u : ℤ) → Once (IsNextCandidate f rule t u)
  next_candidate_once t u a b h k =
      let same = next_once f t u h.change k.change h.next k.next in
      grind (arith, candidates_once f one _ _ _ _ _ _ _ (rw same at h.candidates) k.candidates)

  flagged_once : (u : ℤ) (t : LocalType) → Once (IsFlaggedAmount f rule u t)
  flagged_once u t a b h k = let next = next_candidate_once t u in grind (arith, candidates_once, by_candidates_once)

  pub one_amount : (u : ℤ) → Once (IsAmount f rule u)
  one_amount u a b h k = grind (arith, flagged_once)

-- ---- in a zone
pub amount_once : (z : Zone) (u : ℤ) → Once (IsAmount (TypeAt z) z.rule u)
amount_once z = one_amount (TypeAt z) (type_once z) z.rule

pub saving_once : (z : Zone) (u : ℤ) (s t : Saving) → IsSavingAt z u s → IsSavingAt z u t → s ≡ t
saving_once z u s t h k =
    let same = amount_once z u _ _ h.amount_is k.amount_is in
    grind (arith, h.standard_is _ h.amount_is.in_force_then, k.standard_is _ h.amount_is.in_force_then)

-- the next use of the type t after u
module _ (z : Zone) (t : LocalType) (u : ℤ) where
  abbrev IsNext : ℤ → Type 0
  IsNext a = IsNextCandidate (TypeAt z) z.rule t u a

  pub no_next : AreTurnsFar true z (λ s. s ≡ t) u → (a : ℤ) → IsNext a → ⊥
  no_next far a h = grind (arith, far h.change)

  pub next_found : (c : Change) (early late found : Option ℤ) → IsNearestTurn true z (λ s. s ≡ t) u c
      → AreCandidates (TypeAt z) z.rule c.at t.offset early late → IsFound (IsOnly early late) found → IsFound IsNext found
  next_found c early late None n candidates none = λ a h.
      let there : h.change.at ≡ c.at = grind linear in
      grind (arith, candidates_once _ (type_once z) _ _ _ _ _ _ _ (rw there at h.candidates) candidates)
  next_found c early late (Some a) n candidates only =
      record { change = c; next = grind arith; early = early; late = late; candidates = candidates; only = only }

  -- the choice by what was found
  pub of_two_found : (p q a : ℤ) (found : Option ℤ) → IsFound IsNext found → IsOfTwo (λ x. found ≡ Some x) p q a → IsOfTwo IsNext p q a
  of_two_found p q a found h k = grind (arith, the_found IsNext (next_candidate_once (TypeAt z) (type_once z) z.rule t u) found)
