-- The type in force at a second, as it is asked for the list of changes, and the change there; the type at the last transition's second.
use Rattle.std.proofs.lemmas.Option.{slice_get_within}
use Rattle.tz_info.proofs.{
  ChangeSearch.{InForce, IsOnce, none_before, none_here},
  RuleLaws.rule_told,
  SegmentLaws.{come_by_time, index_next, split_at, split_count, type_in_from},
  Words.{Change, HasNoChange, HasType, IsChange, IsLeapTime, IsRefusedBy, IsRuleOrNone, IsUnixTime, IsValid, List, LocalType, MatchOption, None, Option},
  Words.{RuleOrElse, RuleOrType, SFits, Some, Transition, TransitionRule, TypeAt, Zone, [], all_fit, arith, by_rule, cases_lt, change_between, change_here},
  Words.{false, get_or, index_at, inl, inr, is_second, last_transition, length, linear, nat_lt, passed, pos, refl, rule_type_or, slice_get, slice_get-get_or},
  Words.{suc, true, type_at_leap_time, type_exact, type_or_none, w64, zero, ℕ, ℤ, ⊎_elim, ◌+ℤ◌, ◌-ℤ◌, ◌-◌, ◌<◌, ◌==◌, ◌∷◌, ◌≡◌, ◌≤ℤ◌, ◌⊎◌},
  ZoneLaws.{before_or_from_last, inside_listed, last_index_below, leap_time_decided, some_once, type_not_refused},
}

-- ---- tests
second_true : (u : ℤ) → SFits w64 u → is_second u ≡ true
second_true u fits = grind arith

all_true : (cs : List ℤ) (u : ℤ) (n : ℕ) → ((k : ℕ) → k < n → SFits w64 (u +ℤ get_or cs k (pos 0))) → all_fit cs u n ≡ true
all_true cs u zero h = refl
all_true cs u (suc n) h = rw (second_true _ (h n (omega arith)), all_true cs u n (grind arith))

all_false : (cs : List ℤ) (u : ℤ) (n k : ℕ) → k < n → (SFits w64 (u +ℤ get_or cs k (pos 0)) → ⊥) → all_fit cs u n ≡ false
all_false cs u zero k l out = grind linear
all_false cs u (suc n) k l out = grind (linear, all_false cs u n k, cases_lt k n)

-- ---- a zone's type, or why it has none
moved : (P R : Type 0) (Q S : LocalType → Type 0) (o : Option LocalType) → (P → R) → ((t : LocalType) → Q t → S t) → MatchOption o P Q → MatchOption o R S
moved P R Q S o h k l = grind linear

or_told : (rule : Option TransitionRule) (z : Zone) (u : ℤ) (i : ℕ) → i < length z.types → IsRuleOrNone rule
    → MatchOption (rule_type_or rule u (slice_get z.types i)) (IsRefusedBy rule u) (λ t. RuleOrElse rule u (HasType z i t) t)
or_told (Some rule) z u i h limits = rule_told _ u limits
or_told None z u i h limits = let t = inside_listed _ i h in rw t.1 refl

-- `types` gives the type of each second, or none
abbrev pub AreTypes : InForce → (ℤ → Option LocalType) → Type 0
AreTypes f types = (u : ℤ) → MatchOption (types u) ((t : LocalType) → f u t → ⊥) (f u)

at_leap_time : (z : Zone) (u x : ℤ) → IsValid z → IsRuleOrNone z.rule → (0 < length z.transitions → IsLeapTime z.leaps u x)
    → MatchOption (type_at_leap_time z u x) ((t : LocalType) → TypeAt z u t → ⊥) (TypeAt z u)
at_leap_time z u x valid limits of_second =
    let i = index_at z x in
    let below = last_index_below _ x 0 _ valid.some valid.transitions.indexes in
    elim (before_or_from_last z x) [
      | inl before ↦
          let t = inside_listed _ i below in
          let test : nat_lt (length (passed z.transitions x)) (length z.transitions) ≡ true = grind arith in
          grind linear
      | inr last ↦
          let test : nat_lt (length (passed z.transitions x)) (length z.transitions) ≡ false = grind arith in
          rw test (moved _ ((t : LocalType) → TypeAt z u t → ⊥) (λ t. RuleOrType z u i t) _ _
          (λ refused t h. type_not_refused z u t h (by_rule x of_second last refused))
          (λ t h. grind arith)
          (or_told _ z u i below limits))
    ]

pub types_told : (z : Zone) → IsValid z → IsRuleOrNone z.rule → AreTypes (TypeAt z) (type_or_none z)
unfolding type_or_none
types_told z valid limits u = ⊎_elim
    (λ some.
    let test : (length z.transitions == 0) ≡ false = grind arith in
    grind (linear, leap_time_decided, all_true, at_leap_time, all_false, type_not_refused))
    (λ none. grind (arith, at_leap_time)) (cases_lt 0 (length z.transitions))

-- ---- the change at a second
-- no change comes at the second and none is listed, or the one listed comes there
abbrev pub IsListed : InForce → ℤ → List Change → Type 0
IsListed f u listed = ((listed ≡ []) × HasNoChange f (λ v. v ≡ u)) ⊎ ((c : Change) × (listed ≡ c ∷ []) × IsChange f c × (c.at ≡ u))

between_types : (f : InForce) (u : ℤ) (s t : Option LocalType) → IsOnce f → SFits w64 u → SFits w64 (u -ℤ pos 1)
    → MatchOption s ((x : LocalType) → f (u -ℤ pos 1) x → ⊥) (f (u -ℤ pos 1)) → MatchOption t ((x : LocalType) → f u x → ⊥) (f u)
    → IsListed f u (change_between u s t)
between_types f u s t h k l m n = grind (linear, none_before, none_here, type_exact)

pub here_listed : (f : InForce) (types : ℤ → Option LocalType) (u : ℤ) → IsOnce f → AreTypes f types → IsListed f u (change_here types u)
here_listed f _ u once told = grind (linear, between_types, second_true)

-- ---- the type in force at the last transition's second
pub last_is : (ts : List Transition) (last : Transition) → last_transition ts ≡ Some last → get_or ts (length ts - 1) last ≡ last
last_is ts last is = grind (arith, slice_get-get_or, slice_get_within)

-- if the last transition has come by its second, its type is in force there
pub last_type : (z : Zone) (last : Transition) (u x : ℤ) (t : LocalType) → IsValid z → last_transition z.transitions ≡ Some last
    → IsUnixTime z.leaps last.unix_leap_time u → IsLeapTime z.leaps u x → last.unix_leap_time ≤ℤ x → HasType z last.type_index t → TypeAt z u t
last_type z last u x t valid is unix time come has =
    let ts = z.transitions in
    let rising = valid.transitions.rising in
    let h = slice_get_within ts _ last is in
    let e = last_is ts _ is in
    let p = split_at ts x rising in
    let n = split_count ts x p.0 p.1 in
    let passed = come_by_time ts x (length ts - 1) last rising (omega arith) in
    let index = index_next ts (length ts - 1) last (omega arith) in
    (type_in_from z u x t time (grind arith) (grind (arith, some_once))).type
