-- The differences of two zones, from one pair of types to the next.
use Rattle.tz_info.proofs.{
  ChangeSearch.{InForce},
  Words.{AreDifferences, AreListedTo, Contains-append_left, Contains-get_or, Contains-push, Contains-push_cases, Difference, IsDifference, IsInDifference},
  Words.{IsListedIf, IsPairUntil, IsRunUntil, List, LocalType, TypeAt, Zone, [], all_pairs_push, by_lt_z, get_or, inl, inr, linear, pos, sym, ℤ, ◌-ℤ◌, ◌<ℤ◌},
  Words.{◌∷◌, ◌≡◌, ◌≢◌, ◌≤ℤ◌},
  ZoneLaws.{type_once},
}

-- ---- two that share a second are the same
abbrev made : ℤ → ℤ → LocalType → LocalType → Difference
made u v s t = record { from = u; until = v; old = s; new = t }

-- of two differences of the same zones that share a second, the first has the second's seconds
covers : (z w : Zone) (from until u : ℤ) (d e : Difference) → IsDifference (TypeAt z) (TypeAt w) from until d → IsDifference (TypeAt z) (TypeAt w) from until e
    → d.old ≡ e.old → d.new ≡ e.new → IsInDifference u d → IsInDifference u e → (d.from ≤ℤ e.from) × (e.until ≤ℤ d.until)
covers z w from until u d e h k old new i j = (
  by_lt_z e.from d.from (λ less. let b = h.begins (omega linear) in absurd (grind linear)) (λ m. m),
  by_lt_z d.until e.until (λ less. let types = k.each d.until (omega linear) less in let b = h.ends (omega linear) in absurd (grind linear)) (λ m. m),
)

pub one_difference : (z w : Zone) (from until u : ℤ) (d e : Difference) → IsDifference (TypeAt z) (TypeAt w) from until d
    → IsDifference (TypeAt z) (TypeAt w) from until e
    → IsInDifference u d → IsInDifference u e → d ≡ e
one_difference z w _ _ u d e h k i j =
    let types = h.each u i.0 i.1 in
    let others = k.each u j.0 j.1 in
    let old = type_once z u _ _ types.0 others.0 in
    let new = type_once w u _ _ types.1 others.1 in
    let a = covers z w _ _ u d e h k old new i j in
    let b = covers z w _ _ u e d k h (sym old) (sym new) j i in grind linear

-- ---- both zones keep their types
pub pair_until : (f g : InForce) (at limit own end : ℤ) → IsRunUntil f at limit own → IsRunUntil g at own end → IsPairUntil f g at limit end
pair_until f g at _ own end one other = grind linear

-- ---- from pair to pair
pub listed_more : (z w : Zone) (from until at end : ℤ) (s t : LocalType) (ds es : List Difference) → AreListedTo (TypeAt z) (TypeAt w) from until at ds
    → IsPairUntil (TypeAt z) (TypeAt w) at until end
    → TypeAt z at s → TypeAt w at t → IsListedIf ds (made at end s t) es → AreListedTo (TypeAt z) (TypeAt w) from until end es
listed_more z w from until at end s t ds es h pair k l listed = let reached = h.reached in elim listed [
  | inl (same, is) ↦ rw is (record {
    reached = omega linear;
    rising = h.rising;
    each = λ d inside. let e = h.each d inside in let b = e.1 in (e.0, omega linear);
    covered = λ u m n low high a b differ. by_lt_z u at
        (λ less. h.covered u m n low less a b differ)
        (λ more.
        let one = type_once z u m s a (pair.one u more high s k) in
        let other = type_once w u n t b (pair.other u more high t l) in
        absurd (differ (cc)));
    turned = λ _. turned;
  })
  | inr (differ, is) ↦ rw is (record {
    reached = omega linear;
    rising = all_pairs_push (λ d e. d.until ≤ℤ e.from) ds (made at end s t) h.rising (λ i d below. (h.each (get_or ds i d) (Contains-get_or ds i d below)).1);
    each = λ d inside. elim (Contains-push_cases ds (made at end s t) d inside) [
      | inl earlier ↦ let e = h.each d earlier in let b = e.1 in (e.0, omega linear)
      | inr same ↦ rw (← same) (new differ, omega linear)
    ];
    covered = λ u m n low high a b apart. by_lt_z u at
        (λ less. let d = h.covered u m n low less a b apart in (d.0, Contains-append_left ds (made at end s t ∷ []) d.0 d.1, d.2))
        (λ more. (made at end s t, Contains-push ds (made at end s t), (more, high)));
    turned = λ _. turned;
  })
]
  where
    turned : end <ℤ until → (m n : LocalType) → TypeAt z end m → TypeAt w end n → TypeAt z (end -ℤ pos 1) m → TypeAt w (end -ℤ pos 1) n → ⊥
    turned less m n a b c d =
        let same = type_once z _ m s c (pair.one (end -ℤ pos 1) (omega linear) (omega linear) s k) in
        let other = type_once w _ n t d (pair.other (end -ℤ pos 1) (omega linear) (omega linear) t l) in
        pair.turns less s t k l (rw same at a) (rw other at b)

    -- what is made of a pair that differs
    new : s ≢ t → IsDifference (TypeAt z) (TypeAt w) from until (made at end s t)
    new differ = record {
      low = h.reached;
      some = pair.later;
      high = pair.most;
      differ = differ;
      each = grind linear;
      begins = λ less m n. h.turned less (omega linear) s t k l m n;
      ends = λ less m n. pair.turns less s t k l m n;
    }

-- at the end of the window all are listed
pub all_listed : (z w : Zone) (from until at : ℤ) (ds : List Difference) → AreListedTo (TypeAt z) (TypeAt w) from until at ds → until ≤ℤ at
    → AreDifferences (TypeAt z) (TypeAt w) from until ds
all_listed z w _ _ at ds h over = record {
  rising = h.rising;
  each = λ d. (
    λ inside. (h.each d inside).0,
    λ is.
        let some = is.some in let types = is.each d.from (omega linear) some in
        let found = h.covered d.from d.old d.new is.low (omega linear) types.0 types.1 is.differ in
        rw (← one_difference z w _ _ _ _ d (h.each found.0 found.1).0 is found.2 (omega linear, some)) found.1,
  );
  covered = λ u s t low high. h.covered u s t low (omega linear);
}
