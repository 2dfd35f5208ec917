-- At each second a zone has one type, of its list or of its rule, or it is refused, and never both.
use Rattle.std.proofs.lemmas.Option.{slice_get_cases, slice_get_within}
use Rattle.tz_info.proofs.{
  RuleLaws.{rule_decided, rule_once},
  SegmentLaws.passed_here,
  Words.{HasType, IsBeforeLast, IsFromLast, IsLeapTime, IsLeapTimeRefused, IsRefusedBy, IsRuleOrNone, IsTypeOf, IsTypeRefused, IsValid, LeapSecond, List},
  Words.{LocalType, None, Option, RuleOrElse, SFits, Some, Transition, TransitionRule, TypeAt, Zone, [], arith, by_leap_time, by_lt_z, by_rule, cases_lt},
  Words.{count_by-le-length, error_number, get_or, inl, inr, last_else, le_true, length, length-filter, linear, map, passed, refl, slice_get, suc, sym},
  Words.{type_error, w64, zero, zone_of_rule, ℕ, ℤ, ◌<◌, ◌∙◌, ◌∷◌, ◌≡◌, ◌⊎◌},
}

pub before_or_from_last : (z : Zone) (x : ℤ) → IsBeforeLast z x ⊎ IsFromLast z x
before_or_from_last z x = grind (linear, length-filter, count_by-le-length)

-- two leap times of a second pass the same transitions
pub same_passed : (z : Zone) (u x y : ℤ) → (0 < length z.transitions → IsLeapTime z.leaps u x) → (0 < length z.transitions → IsLeapTime z.leaps u y)
    → passed z.transitions x ≡ passed z.transitions y
same_passed z u x y a b = passed_here z u x a ∙ sym (passed_here z u y b)

pub some_once : (o : Option LocalType) (s t : LocalType) → o ≡ Some s → o ≡ Some t → s ≡ t
some_once o s t h k = cc

pub type_once : (z : Zone) (u : ℤ) (s t : LocalType) → TypeAt z u s → TypeAt z u t → s ≡ t
type_once z u s t a b = grind (linear, same_passed, rule_once, before_or_from_last)

pub type_not_refused : (z : Zone) (u : ℤ) (t : LocalType) → TypeAt z u t → IsTypeRefused z u → ⊥
type_not_refused z u t a r = grind (linear, same_passed)

-- an item of a list
pub inside_listed : {X : Type 0} (xs : List X) (i : ℕ) → i < length xs → (x : X) × (slice_get xs i ≡ Some x)
inside_listed xs i h = let c = slice_get_cases xs i in grind arith

-- a type in force is in the list or is the rule's
pub type_listed : (z : Zone) (u : ℤ) (t : LocalType) → TypeAt z u t → ((k : ℕ) × (k < length z.types) × HasType z k t) ⊎ IsTypeOf z.rule u t
type_listed z u t a = grind (linear, before_or_from_last, slice_get_within)

pub fits_or_not : (a : ℤ) → SFits w64 a ⊎ (SFits w64 a → ⊥)
fits_or_not a = grind arith

-- all of n numbers fit 64 bits, or one does not
all_fit_or_not : (f : ℕ → ℤ) (n : ℕ) → ((k : ℕ) → k < n → SFits w64 (f k)) ⊎ ((k : ℕ) × (k < n) × (SFits w64 (f k) → ⊥))
all_fit_or_not f zero = grind linear
all_fit_or_not f (suc n) = let before = all_fit_or_not f n in let here = fits_or_not (f n) in grind linear

pub leap_time_decided : (leaps : List LeapSecond) (u : ℤ) → ((x : ℤ) × IsLeapTime leaps u x) ⊎ IsLeapTimeRefused leaps u
leap_time_decided leaps u = elim (all_fit_or_not _ _) [
  | inl all ↦ inl (_, record { sum = refl; fits = all })
  | inr some ↦ inr (record { place = some.0; passed = some.1; leaves = some.2 })
]

-- the last of the passed transitions names a type
pub last_index_below : (ts : List Transition) (x : ℤ) (d n : ℕ) → d < n → ((k : ℕ) (e : Transition) → k < length ts → (get_or ts k e).type_index < n)
    → last_else d (map (λ t. t.type_index) (passed ts x)) < n
last_index_below [] x d n h all = h
last_index_below (t ∷ ts) x d n h all =
    let more = λ (d : ℕ) (h : d < n). last_index_below ts x d n h (λ k e l. all (suc k) e (omega arith)) in
    by_lt_z x t.unix_leap_time (grind linear) (λ come. rw (le_true _ x come) (more _ (all 0 t (omega arith))))

or_else_decided : (rule : Option TransitionRule) (z : Zone) (u : ℤ) (i : ℕ) → i < length z.types → IsRuleOrNone rule
    → ((t : LocalType) × RuleOrElse rule u (HasType z i t) t) ⊎ IsRefusedBy rule u
or_else_decided (Some rule) _ u _ _ limits = rule_decided _ u limits
or_else_decided None _ _ i h _ = inl (inside_listed _ i h)

decided_at : (z : Zone) (u x : ℤ) → IsValid z → IsRuleOrNone z.rule → (0 < length z.transitions → IsLeapTime z.leaps u x)
    → ((t : LocalType) × TypeAt z u t) ⊎ IsTypeRefused z u
decided_at z u x valid limits of_second =
    let below = last_index_below _ x 0 _ valid.some valid.transitions.indexes in
    let (t, listed) = inside_listed _ _ below in
    elim (before_or_from_last z x) [
      | inl before ↦ inl (grind linear)
      | inr last ↦ elim (or_else_decided _ z u _ below limits) [
        | inl t ↦ inl (grind linear)
        | inr refused ↦ inr (by_rule x of_second last refused)
      ]
    ]

pub type_error_number : (z : Zone) (u : ℤ) (refused : IsTypeRefused z u) → error_number (type_error refused) ≡ 2
type_error_number z u refused = grind linear

pub type_decided : (z : Zone) (u : ℤ) → IsValid z → IsRuleOrNone z.rule → ((t : LocalType) × TypeAt z u t) ⊎ IsTypeRefused z u
type_decided z u valid limits = elim (cases_lt 0 _) [
  | inl some ↦ elim (leap_time_decided z.leaps u) [ inl x ↦ decided_at z u x.0 valid limits (λ _. x.1) | inr refused ↦ inr (by_leap_time some refused) ]
  | inr none ↦ decided_at z u u valid limits (grind arith)
]

-- a rule and types without transitions make a zone
pub zone_of_rule_valid : (types : List LocalType) (rule : Option TransitionRule) → 0 < length types → IsValid (zone_of_rule types rule)
zone_of_rule_valid types rule some = grind linear
