-- The least and the greatest of some offsets.
use Rattle.tz_info.proofs.{
  Words.{All-contains, All-push, AreExtremes, AreJoined, AreJoinedByRule, Contains, Contains-append_left, Contains-append_right, Contains-push, Extremes},
  Words.{IsEnd, IsGreatest, IsLeast, IsWindowOf, List, LocalType, Option, SFits, Some, TransitionRule, TypeAt, Zone, [], append_assoc, get_or-map, length},
  Words.{length-map, linear, offsets, offsets_of, rule_offsets, slice_get, slice_get-get_or, w32, ℕ, ℤ, ⊎_elim, ◌++◌, ◌-ℤ◌, ◌<◌, ◌∷◌, ◌≡◌, ◌≤ℤ◌, ◌⊎◌},
  ZoneLaws.type_listed,
}
use Rattle.tz_info.specs.declared.rule.transition_rule.TransitionRule.TheVariants.{Alternate, Fixed}

pushed : (xs : List ℤ) (x y o : ℤ) → Contains xs x → (y ≡ x) ⊎ (y ≡ o) → Contains (xs ++ o ∷ []) y
pushed xs x y o c e = grind (linear, Contains-append_left xs (o ∷ []) x c, Contains-push xs o)

-- one offset more
pub joined : (xs : List ℤ) (e : Extremes) (o : ℤ) (r : Extremes) → AreExtremes xs e → AreJoined e o r → AreExtremes (xs ++ o ∷ []) r
joined xs e o r a j = record {
  greatest = record {
    among = pushed xs _ _ o a.greatest.among j.greatest_from;
    most = All-push (λ x. x ≤ℤ r.greatest) xs o (λ k d l. let h = a.greatest.most k d l in omega linear) j.most_here;
  };
  least = record {
    among = pushed xs _ _ o a.least.among j.least_from;
    fewest = All-push (λ x. r.least ≤ℤ x) xs o (λ k d l. let h = a.least.fewest k d l in omega linear) j.fewest_here;
  };
}

-- ---- with the rule's
pub rule_joined : (types : List LocalType) (rule : Option TransitionRule) (some : TransitionRule) (e r : Extremes) → rule ≡ Some some
    → AreExtremes (offsets_of types) e → AreJoinedByRule e some r → AreExtremes (offsets types rule) r
rule_joined _ _ (Fixed t) e r is h j = rw is (joined _ e _ r h j)
rule_joined types _ (Alternate a) e r is h (one, f, g) =
    let s = joined _ one _ r (joined _ e _ one h f) g in
    rw is (rw append_assoc at s)

-- ---- the offset of a type in force is one of them
listed_among : (types : List LocalType) (k : ℕ) (t : LocalType) → k < length types → slice_get types k ≡ Some t → Contains (offsets_of types) t.offset
listed_among types k t h e =
    (k, simp length-map h, let g = slice_get-get_or types k t h in let m = get_or-map (λ (t : LocalType). t.offset) types k t t.offset h in grind linear)

pub in_force_among : (z : Zone) (u : ℤ) (t : LocalType) → TypeAt z u t → Contains (offsets z.types z.rule) t.offset
in_force_among z u t a = ⊎_elim (λ i. Contains-append_left (offsets_of z.types) (rule_offsets z.rule) _ (listed_among _ i.0 t i.1 i.2))
    (λ h. Contains-append_right (offsets_of z.types) (rule_offsets z.rule) _ (grind linear)) (type_listed z u t a)

pub at_most_greatest : (z : Zone) (u g : ℤ) (t : LocalType) → IsGreatest (offsets z.types z.rule) g → TypeAt z u t → t.offset ≤ℤ g
at_most_greatest z u g t h a = All-contains (λ x. x ≤ℤ g) (offsets _ z.rule) _ h.most (in_force_among z u t a)

pub listed_at_most : (z : Zone) (i : ℕ) (g : ℤ) (t : LocalType) → IsGreatest (offsets z.types z.rule) g → i < length z.types → slice_get z.types i ≡ Some t
    → t.offset ≤ℤ g
listed_at_most z i g t h below has = All-contains (λ x. x ≤ℤ g) (offsets _ z.rule) _ h.most
    (Contains-append_left (offsets_of z.types) (rule_offsets z.rule) _ (listed_among _ i t below has))

pub at_least_least : (z : Zone) (u g : ℤ) (t : LocalType) → IsLeast (offsets z.types z.rule) g → TypeAt z u t → g ≤ℤ t.offset
at_least_least z u g t h a = All-contains (λ x. g ≤ℤ x) (offsets _ z.rule) _ h.fewest (in_force_among z u t a)

-- the seconds by the greatest offset and by the least
pub window_made : (z : Zone) (from until g h : ℤ) → IsEnd from → IsEnd until → SFits w32 g → SFits w32 h → IsGreatest (offsets z.types z.rule) g
    → IsLeast (offsets z.types z.rule) h → IsWindowOf z from until (from -ℤ g) (until -ℤ h)
window_made z from until g h first last fits_g fits_h greatest least =
    let same : from -ℤ (from -ℤ g) ≡ g = omega linear in let alike : until -ℤ (until -ℤ h) ≡ h = omega linear in record {
      greatest = rw same greatest;
      least = rw alike least;
      near_low = (omega linear, omega linear);
      near_high = (omega linear, omega linear);
    }
