-- Questions to a zone's rule: at which seconds it is asked, and how often for a local time.
use Rattle.std.proofs.lemmas.List.Elements.{Contains-get_or}
use Rattle.tz_info.proofs.{
  ListFaults.equal_known,
  SegmentLaws.{come_at_time, come_by_then},
  WalkLaws.window_most,
  WallSegments.{leap_time_of, near_of, rule_begun},
  Words.{All-contains, AllPairs-cons, Alternate as AlternateRule, AreUtOffsets, Bool, Contains, Contains-append_right, IsAskedAt, IsAskedAtEach},
  Words.{IsAskedAtLeapTime, IsAskedFor, IsAskedFrom, IsAskedSince, IsByRuleFor, IsLeapTime, IsNear, IsSecondFrom, IsStart, IsValid, IsWide, IsWindow},
  Words.{LocalType, None, Some, Transition, TransitionRule, Zone, [], arith, false, get_or, inl, inr, length, linear, nil_from_length as no_items, not},
  Words.{offsets, offsets_of, refl, rule_offsets, sym, true, type_when, ℕ, ℤ, ⊎_elim, ◌+◌, ◌-ℤ◌, ◌<ℤ◌, ◌<◌, ◌↔◌, ◌∙◌, ◌∷◌, ◌≡◌, ◌≢◌, ◌≤ℤ◌, ◌⊎◌},
  ZoneLaws.same_passed,
}
use Rattle.tz_info.specs.{declared.rule.transition_rule.TransitionRule.TheVariants.{Alternate, Fixed}}

-- ---- from which second on the rule is asked
-- a zone asks its rule from `start` on
module _ (z : Zone) (rule : TransitionRule) (start l : ℤ) (valid : IsValid z) (is : z.rule ≡ Some rule)
    (begun : IsStart z.transitions z.leaps (length z.transitions) start) (wide : IsWide l) (offsets : AreUtOffsets rule) where
  near : (u : ℤ) → (o : ℤ) → Contains (rule_offsets (Some rule)) o → u ≡ l -ℤ o → IsNear u
  near u o of_rule e = rw e (near_of l _ wide (offsets _ of_rule))

  seconds_by_rule : (u : ℤ) → IsSecondFrom rule start l u ↔ IsByRuleFor z l u
  seconds_by_rule u = (
    (λ k.
        let near = near u _ k.of_rule k.of_second in
        let time = leap_time_of z u valid near in
        let from_last = come_at_time z u _ time.1 ∙ (rule_begun z u _ valid near begun).1 k.since in grind linear),
    (λ k.
        let of_rule = rw is at k.of_rule in
        grind (linear, come_by_then, rule_begun z u start valid (near u _ of_rule k.of_second) begun)),
  )

  pub asked_by_zone : (p q : ℕ) → IsAskedFrom rule start l p q → IsAskedFor z l p q
  asked_by_zone p q k = record { seconds = k.seconds; once = k.once; each = λ u. let e = k.each u in grind (linear, seconds_by_rule u); count = k.count }

pub in_two : (a b u : ℤ) → Contains (a ∷ b ∷ []) u → (u ≡ a) ⊎ (u ≡ b)
in_two a b u h = grind linear

nowhere : (asks : ℤ → Type 0) (p q : ℕ) → ((u : ℤ) → asks u → ⊥) → q ≡ p → IsAskedAtEach asks p q
nowhere _ p q none e = grind arith

-- one question more if the second is taken
abbrev IsAskedIf : (ℤ → Type 0) → ℤ → ℕ → ℕ → Type 0
IsAskedIf asks u p q = (asks u × (q ≡ p + 1)) ⊎ ((asks u → ⊥) × (q ≡ p))

-- and then those at the other seconds
asked_more : (asks : ℤ → Type 0) (c : ℤ) (p q r : ℕ) → IsAskedIf asks c p q → IsAskedAtEach (λ u. asks u × (u ≢ c)) q r → IsAskedAtEach asks p r
asked_more _ c p q r (inl (k, e)) others = record {
  seconds = c ∷ others.seconds;
  once = AllPairs-cons (λ u v. u ≢ v) c others.seconds (λ i d h g. ((others.each _).0 (Contains-get_or others.seconds i d h)).1 (sym g)) others.once;
  each = λ u. (
    grind linear,
    λ i. ⊎_elim (λ g. (0, omega arith, sym g)) (λ other. Contains-append_right (c ∷ []) others.seconds u ((others.each u).1 (i, other))) (equal_known u c),
  );
  count = omega arith;
}
asked_more asks c p q r (inr (none, e)) others = grind arith

one_second : (asks : ℤ → Type 0) (c : ℤ) (p q : ℕ) → ((u : ℤ) → asks u → u ≡ c) → IsAskedIf asks c p q → IsAskedAtEach asks p q
one_second asks c p q only k = asked_more _ c p q q k (nowhere _ q q (grind linear) refl)

-- ---- those of a rule
asked_since : (rule : TransitionRule) (from l o : ℤ) (p q : ℕ) → Contains (rule_offsets (Some rule)) o → IsAskedSince from (l -ℤ o) p q
    → IsAskedIf (IsSecondFrom rule from l) (l -ℤ o) p q
asked_since rule from l o p q h k = grind linear

pub asked_fixed : (f : LocalType) (from l : ℤ) (p q : ℕ) → IsAskedSince from (l -ℤ f.offset) p q → IsAskedFrom (Fixed f) from l p q
asked_fixed f _ l p q asked = one_second _ _ p q
    (grind linear) (asked_since _ _ l _ p q (0, omega arith, refl) asked)

module _ (a : AlternateRule) (from l : ℤ) (dst : Bool) where
  of_rule : (b : Bool) → Contains (rule_offsets (Some (Alternate a))) (type_when a b).offset
  of_rule true = (1, omega arith, refl)
  of_rule false = (0, omega arith, refl)

  either : (u : ℤ) → IsSecondFrom (Alternate a) from l u → (u ≡ l -ℤ (type_when a dst).offset) ⊎ (u ≡ l -ℤ (type_when a (not dst)).offset)
  either u k = grind arith

  -- the second of the one type is asked, and then that of the other one
  pub asked_in_turn : (p q r : ℕ) → a.std.offset ≢ a.dst.offset → IsAskedSince from (l -ℤ (type_when a dst).offset) p q
      → IsAskedSince from (l -ℤ (type_when a (not dst)).offset) q r → IsAskedFrom (Alternate a) from l p r
  asked_in_turn p q r other h k =
      let c = l -ℤ (type_when a dst).offset in let d = l -ℤ (type_when a (not dst)).offset in let apart : c ≢ d = grind arith in
      let asked = asked_since (Alternate a) from l (type_when a (not dst)).offset q r (of_rule (not dst)) k in
      asked_more _ c p q r (asked_since _ _ l _ p q (of_rule _) h)
      (one_second (λ u. IsSecondFrom (Alternate a) from l u × (u ≢ c)) d q r (grind (linear, either)) (grind linear))

  -- both come too early
  pub asked_neither : (p : ℕ) → (l -ℤ a.std.offset) <ℤ from → (l -ℤ a.dst.offset) <ℤ from → IsAskedFrom (Alternate a) from l p p
  asked_neither p first last = grind (linear, nowhere, either)

  -- if both offsets are equal
  pub asked_once : (p q : ℕ) → a.std.offset ≡ a.dst.offset → IsAskedSince from (l -ℤ (type_when a dst).offset) p q → IsAskedFrom (Alternate a) from l p q
  asked_once p q same h = one_second _ _ p q (grind (arith, either)) (asked_since _ _ l _ p q (of_rule _) h)

-- ---- none, without a rule
pub asked_none : (z : Zone) (l : ℤ) (p : ℕ) → z.rule ≡ None → IsAskedFor z l p p
asked_none z l p e = grind (linear, nowhere)

-- ---- none, if a transition comes after all of the local time's window
pub asked_for_window : (z : Zone) (l low high : ℤ) (n : ℕ) (d : Transition) (p q : ℕ) → IsValid z → IsWindow z l low high → n < length z.transitions
    → high <ℤ (get_or z.transitions n d).unix_leap_time → q ≡ p → IsAskedFor z l p q
asked_for_window z l low _ n d p q valid w h later e = nowhere _ p q (λ u k.
    let among = Contains-append_right (offsets_of z.types) (rule_offsets z.rule) _ k.of_rule in
    let least = All-contains (λ x. w.least ≤ℤ x) (offsets _ z.rule) _ w.is_least.fewest among in
    let most = window_most n valid w d h later u _ least (omega linear) in grind (linear, come_by_then)) e

-- ---- by instant
pub asked_at_time : (z : Zone) (u x : ℤ) (p q : ℕ) → (0 < length z.transitions → IsLeapTime z.leaps u x) → IsAskedAtLeapTime z x p q → IsAskedAt z u p q
asked_at_time z u x p q h k = grind (linear, same_passed)

pub asked_without : (z : Zone) (u : ℤ) (p q : ℕ) → length z.transitions ≡ 0 → ((rule : TransitionRule) → z.rule ≡ Some rule → q ≡ p + 1)
    → (z.rule ≡ None → q ≡ p) → IsAskedAt z u p q
asked_without z u p q e asked unasked = asked_at_time z u u p q (λ h. absurd (omega arith)) (grind (linear, no_items))
