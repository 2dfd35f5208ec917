-- Walks from change to change, and standard time on both sides of a second of daylight saving time: a second has one candidate of each.
use Rattle.offset_core.specs.Offset.{IsWithinDay}
use Rattle.std.specs.Prelude.{Bool, not, option_map, ◌+ℤ◌, ◌-◌, ◌<◌, ◌↔◌, ◌⊎◌}
use Rattle.tz_info.proofs.{
  ChangeLaws.one_change,
  ChangeSearch.{InForce, IsOnce},
  SpanLaws.typed_between,
  Words.{IsNearestChange, IsRuleOrNone, IsValid, Precedes, unsigned_abs, ◌≢◌},
}
use Rattle.tz_saving.{
  proofs.Words.{AreCandidates, AreTurnsFar, At_a_second, Change, HasChanges, IsAfter, IsBefore, IsCandidate, IsChange, IsFound, IsNearestTurn},
  proofs.Words.{IsStandard, IsWalkedTo, IsWanted, LocalType, None, Option, Some, Standard, TransitionRule, TypeAt, Zone, arith, false, inl},
  proofs.Words.{inr, linear, pos, suc, true, type_once, zero, ℕ, ℤ, ◌-ℤ◌, ◌<ℤ◌, ◌≡◌, ◌≤ℤ◌},
  specs.Sides.{IsAfter.Of_rule, IsRuleStandard},
  specs.Steps.Walks.{HasBetween, HasFlag, IsAhead, IsBeyond, IsFar, IsNearestStandard, IsStandardFound, IsTurn, IsTurnFound, far_second, far_type},
}

-- ---- counts of changes: a walk from change to change uses up one at each step
module _ (z : Zone) where
  -- seconds that are farther apart have no fewer between them
  wider : (n : ℕ) (v w a b : ℤ) → w ≤ℤ v → a ≤ℤ b → HasChanges (TypeAt z) n v a → HasChanges (TypeAt z) n w b
  unfolding HasChanges
  wider zero v w a b l m h = tt
  wider (suc n) v w a b l m h = grind (linear, wider n v w (h.0.at -ℤ pos 1) (h.0.at -ℤ pos 1))

  has_one : (forward : Bool) (r : ℤ) (c : Change) → IsChange (TypeAt z) c → IsBeyond forward r c.at
      → HasBetween forward z 1 r (far_second forward c.at)
  unfolding HasChanges
  has_one forward r c is l = grind linear

  -- over the nearest change
  steps : (forward : Bool) (n : ℕ) (r v : ℤ) (c : Change) → IsNearestChange forward (TypeAt z) (IsBeyond forward r) c
      → HasBetween forward z (suc (suc n)) r v ↔ HasBetween forward z (suc n) (far_second forward c.at) v
  unfolding HasChanges
  steps false n r v c last = grind (linear, wider)
  steps true zero r v c next = grind linear
  steps true (suc n) r v c next = (
    λ (d, is, from, to, rest). grind (linear, steps true n r (d.at -ℤ pos 1) c),
    λ (d, is, from, to, rest). grind (linear, steps true n r (d.at -ℤ pos 1) c),
  )

-- the walk from u has come to r
module _ {z : Zone} {forward : Bool} {wanted : LocalType → Type 0} {u r : ℤ} where
  -- some changes are left, and c is the nearest
  module _ {left : ℕ} {c : Change} (some : 0 < left) (h : IsWalkedTo forward z wanted left u r)
      (next : IsNearestChange forward (TypeAt z) (IsBeyond forward r) c) where
    left_far : (v : ℤ) → HasBetween forward z (suc (left - 1)) (far_second forward c.at) v ↔ IsFar forward z u v
    left_far v = let e : left ≡ suc (left - 1) = omega arith in grind (arith, steps, e)

    pub goes : (wanted (far_type forward c) → ⊥) → IsWalkedTo forward z wanted (left - 1) u (far_second forward c.at)
    goes other = record { order = grind linear; reach_left = left_far; later = grind (linear, one_change z c) }

    pub turns : wanted (far_type forward c) → IsNearestTurn forward z wanted u c
    unfolding HasChanges
    turns to = record {
      turn = record { is = next.is; to = to; beyond = grind linear };
      near = grind (linear, left_far (far_second forward c.at));
      first = λ d t. grind arith;
    }

  -- out of reach
  pub far : IsWalkedTo forward z wanted 0 u r → AreTurnsFar forward z wanted u
  far h d t = grind (arith, has_one)

-- ---- standard time
-- in a valid zone
module _ (z : Zone) (valid : IsValid z) (limits : IsRuleOrNone z.rule) where
  -- between seconds of which one is standard comes a change of the flag; they are n seconds apart
  flips : (b : Bool) (n : ℕ) (u v : ℤ) → v ≡ u +ℤ pos n → HasFlag z b u → HasFlag z (not b) v
      → (d : Change) × (IsChange (TypeAt z) d × (u <ℤ d.at) × (d.at ≤ℤ v) × (d.before.dst ≡ b) × (d.after.dst ≡ not b))
  flips b zero u v e h k =
      let here : v ≡ u = omega linear in let same = type_once z u _ _ h.in_force_then (rw here at k.in_force_then) in absurd (grind arith)
  flips b (suc n) u v e h k =
      let (q, at) = typed_between z u v (v -ℤ pos 1) _ _ valid (omega linear) (omega linear) h.in_force_then k.in_force_then limits in
      let flag : (q.dst ≡ b) ⊎ (q.dst ≡ not b) = grind arith in elim flag [
        | inl same ↦ (record { at = v; before = q; after = k.type }, grind linear)
        | inr other ↦ let before = flips b n u (v -ℤ pos 1) (omega linear) h (grind linear) in (before.0, grind linear)
      ]

  -- at the second u a type that has the flag is in force
  module _ (u : ℤ) (now : HasFlag z true u) where
    -- towards a standard second comes a turn to standard time
    turn_to : (forward : Bool) (v offset : ℤ) → IsStandard (TypeAt z) offset v → IsAhead forward u v
        → (d : Change) × (IsTurn forward z (IsWanted Standard) u d × Precedes forward (far_second forward d.at) v)
    turn_to true v offset s l = let turn = flips true (unsigned_abs (v -ℤ u)) u v (omega linear) now (grind arith) in (turn.0, grind linear)
    turn_to false v offset s l = let turn = flips false (unsigned_abs (u -ℤ v)) v u (omega linear) (grind arith) now in (turn.0, grind linear)

    pub standard_is : (forward : Bool) (found : Option Change) → IsTurnFound forward z (IsWanted Standard) u found
        → IsStandardFound forward z u (option_map (λ c. (far_type forward c).offset) found)
    standard_is forward None far = λ v offset s near. grind (linear, wider, turn_to forward v offset s near.0)
    standard_is forward (Some c) n = record {
      at = far_second forward c.at;
      near = grind linear;
      is = grind arith;
      nearest = λ v other s l. grind (linear, turn_to forward v other s l);
    }

-- ---- one of each
-- one number has the property
abbrev pub Once : (ℤ → Type 0) → Type 0
Once is = (a b : ℤ) → is a → is b → a ≡ b

module _ (is : ℤ → Type 0) (once : Once is) where
  found_once : (offset : ℤ) (p q : Option ℤ) → IsFound (IsCandidate is offset) p → IsFound (IsCandidate is offset) q → p ≡ q
  found_once offset p q h k = grind arith

  -- what the code finds
  pub the_found : (found : Option ℤ) (s : ℤ) → IsFound is found → is s → found ≡ Some s
  the_found found s h k = grind arith

  -- a candidate by the offset that was found is one by that side
  pub found_candidate : (offset : ℤ) (standard result : Option ℤ) → IsFound is standard → IsFound (IsCandidate (λ s. standard ≡ Some s) offset) result
      → IsFound (IsCandidate is offset) result
  found_candidate offset standard None h k = λ a r. grind (arith, the_found, k a)
  found_candidate offset standard (Some a) h k = grind arith

-- a second has one type
module _ (f : InForce) (one : IsOnce f) where
  pub before_once : (u : ℤ) → Once (IsBefore f u)
  before_once u a b h k = grind (linear, h.last k.at b, k.last h.at a)

  pub after_once : (rule : Option TransitionRule) (u : ℤ) → Once (IsAfter f rule u)
  after_once rule u a b (At_a_second h) (At_a_second k) = grind (linear, h.first k.at b, k.first h.at a)
  after_once rule u a b (At_a_second h) (Of_rule none k) = absurd (none _ _ h.is h.after)
  after_once rule u a b (Of_rule none h) (At_a_second k) = absurd (none _ _ k.is k.after)
  after_once rule u a b (Of_rule none h) (Of_rule m k) = grind arith

  pub candidates_once : (rule : Option TransitionRule) (u offset : ℤ) (p q r s : Option ℤ) → AreCandidates f rule u offset p q
      → AreCandidates f rule u offset r s → (p ≡ r) × (q ≡ s)
  candidates_once rule u offset p q r s h k = (
    found_once _ (before_once u) _ _ _ h.early_is k.early_is,
    found_once _ (after_once rule u) _ _ _ h.late_is k.late_is,
  )

-- ---- what the code finds
module _ (z : Zone) (u : ℤ) where
  pub before_found : (found : Option ℤ) → IsStandardFound false z u found → IsFound (IsBefore (TypeAt z) u) found
  before_found None none = λ a k. none k.at a k.is (k.before, k.near)
  before_found (Some a) h = record { at = h.at; before = h.near.0; near = h.near.1; is = h.is; last = h.nearest }

  pub after_found : (a : ℤ) → IsNearestStandard true z u a → IsAfter (TypeAt z) z.rule u a
  after_found a h = At_a_second (record { at = h.at; after = h.near; is = h.is; first = h.nearest })

  -- standard time of the rule, if no standard second comes after u
  pub after_of_rule : (ruled : Option ℤ) → IsStandardFound true z u None → IsFound (IsRuleStandard z.rule) ruled
      → IsFound (IsAfter (TypeAt z) z.rule u) ruled
  after_of_rule None none h = λ a k. elim k [ At_a_second k ↦ none k.at a k.is k.after | Of_rule m k ↦ h a k ]
  after_of_rule (Some a) none h = Of_rule none h

-- ---- the candidate by an offset
module _ (offset standard : ℤ) where
  pub candidate_is : (offset -ℤ standard ≢ pos 0) → IsWithinDay (offset -ℤ standard) → IsCandidate (λ s. s ≡ standard) offset (offset -ℤ standard)
  candidate_is some within = grind arith

  pub no_candidate : ((offset -ℤ standard ≢ pos 0) × IsWithinDay (offset -ℤ standard) → ⊥) → (a : ℤ) → IsCandidate (λ s. s ≡ standard) offset a → ⊥
  no_candidate none a r = grind linear
