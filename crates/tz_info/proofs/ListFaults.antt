-- Lists make a zone or have one first fault.
use Rattle.std.proofs.lemmas.List.Elements.{All-map}
use Rattle.tz_base.specs.{
  declared.error.Error.TheVariants.TimeZone,
  declared.error.Expected.TheVariants.{AtLeastOneLocalTimeType, LeapSecondsInOrder, RuleThatAgreesWithLastTransition, TransitionTimesThatRise},
  declared.error.Expected.TheVariants.TypeIndexesWithinTypes,
}
use Rattle.tz_info.proofs.{
  Words.{All, AllAdjacentBelow, AllPairs, AreLeapSeconds, AreRising, AreTransitions, Error, IsNextLeap, IsValid, LeapSecond, List, ListFault, No_type},
  Words.{Not_rising, Other_index, Other_leaps, Other_rule, Transition, Zone, [], arith, below_more, cases_lt, error_number, get_or-map, get_or_default, inl},
  Words.{inr, length, length-map, map, suc, zero, ℕ, ℤ, ◌+◌, ◌<ℤ◌, ◌<◌, ◌∷◌, ◌≡◌, ◌≤◌, ◌⊎◌},
}
use Rattle.tz_info.specs.Transitions.{NameTypes}

-- ---- what can be tested holds or does not
abbrev pub Known : Type 0 → Type 0
Known P = P ⊎ ¬ P

pub equal_known : (a b : ℤ) → Known (a ≡ b)
equal_known a b = grind arith

pub both_known : {P Q : Type 0} → Known P → Known Q → Known (P × Q)
both_known p q = grind arith

like_known : {P Q : Type 0} → (P → Q) → (Q → P) → Known P → Known Q
like_known to from p = grind arith

-- ---- of each number below one, each element, and each and the next
below_known : {P : ℕ → Type 0} (n : ℕ) → ((k : ℕ) → Known (P k)) → Known ((k : ℕ) → k < n → P k)
below_known zero each = inl (grind arith)
below_known (suc n) each = let r = below_known n each in let here = each n in grind (arith, below_more)

all_known : {X : Type 0} {P : X → Type 0} → ((x : X) → Known (P x)) → (xs : List X) → Known (All P xs)
all_known each [] = inl (grind arith)
all_known {P = P} each (x ∷ xs) = like_known (λ h k d l. rw (get_or_default (x ∷ xs) k d x l) (h k l)) (λ h k l. h k x l)
    (below_known {P = λ k. P _} (length (x ∷ xs)) (λ k. each _))

pairs_known : {X : Type 0} {R : X → X → Type 0} → ((x y : X) → Known (R x y)) → (xs : List X) → Known (AllPairs R xs)
pairs_known each [] = inl (grind arith)
pairs_known {R = R} each (x ∷ xs) = like_known
    (λ h i j d l m. rw (get_or_default (x ∷ xs) i d x (omega arith), get_or_default (x ∷ xs) j d x m) (h j m i l))
    (λ h j m i l. h i j x l m)
    (below_known {P = λ j. (i : ℕ) → i < j → R _ _} (length (x ∷ xs)) (λ j. below_known j (λ i. each _ _)))

adjacent_known : {X : Type 0} {R : X → X → Type 0} → ((x y : X) → Known (R x y)) → (xs : List X) → Known (AllAdjacentBelow R xs (length xs))
adjacent_known each [] = inl (grind arith)
adjacent_known {R = R} each (x ∷ xs) = like_known
    (λ h k d l. rw (get_or_default (x ∷ xs) k d x (omega arith), get_or_default (x ∷ xs) (k + 1) d x l) (h k (omega arith)))
    (λ h k l. h k x (omega arith))
    (below_known {P = λ k. R _ _} (length xs) (λ k. each _ _))

-- ---- transitions and leap seconds
leaps_known : (leaps : List LeapSecond) → Known (AreLeapSeconds leaps)
leaps_known [] = inl (grind arith)
leaps_known (e ∷ es) = like_known (λ h. record { first = λ d l. h.0; next = h.1 }) (λ h. (h.first e (omega arith), h.next))
    (both_known (grind arith) (adjacent_known {R = IsNextLeap} (λ a b. grind arith) (e ∷ es)))

-- ---- the first fault
pub list_fault_or_valid : (z : Zone) (e : Error) → ListFault z e → IsValid z → ⊥
list_fault_or_valid z e f v = grind arith

pub list_fault_low : (z : Zone) (e : Error) → ListFault z e → error_number e ≤ 16
list_fault_low z e f = grind arith

-- a condition does not hold, or it holds and a later one is at fault
abbrev Staged : Zone → Error → Type 0
Staged z e =
    (¬ (0 < length z.types) × (e ≡ TimeZone AtLeastOneLocalTimeType)) ⊎ ((0 < length z.types)
    × ((¬ (NameTypes (length z.types) z.transitions) × (e ≡ TimeZone TypeIndexesWithinTypes)) ⊎ (NameTypes (length z.types) z.transitions
    × ((¬ (AreRising z.transitions) × (e ≡ TimeZone TransitionTimesThatRise)) ⊎ (AreRising z.transitions
    × ((¬ (AreLeapSeconds z.leaps) × (e ≡ TimeZone LeapSecondsInOrder)) ⊎ (AreLeapSeconds z.leaps × (e ≡ TimeZone RuleThatAgreesWithLastTransition))))))))

staged : (z : Zone) (e : Error) → ListFault z e → Staged z e
staged z e f = grind arith

pub list_fault_once : (z : Zone) (d e : Error) → ListFault z d → ListFault z e → d ≡ e
list_fault_once z d e f g = let a = staged z d f in let b = staged z e g in grind arith

pub has_list_fault : (z : Zone) → ¬ (IsValid z) → (e : Error) × ListFault z e
has_list_fault z bad = elim (cases_lt 0 (length z.types)) [
  | inr none ↦ (_, No_type (λ l. omega arith))
  | inl some ↦ elim (all_known {P = λ (t : Transition). t.type_index < length z.types} (λ t. grind arith) _) [
    | inr other ↦ (_, Other_index some other)
    | inl indexes ↦ elim (pairs_known {R = λ (a b : Transition). a.unix_leap_time <ℤ b.unix_leap_time} (λ a b. grind arith) _) [
      | inr other ↦ (_, Not_rising some indexes other)
      | inl rising ↦
          let transitions : AreTransitions (length z.types) _ = record { indexes = indexes; rising = rising } in
          elim (leaps_known _) [
            | inr other ↦ (_, Other_leaps some transitions other)
            | inl leaps ↦
                (_, Other_rule some transitions leaps (λ agrees. bad (record { some = some; transitions = transitions; leaps = leaps; agrees = agrees })))
          ]
    ]
  ]
]

-- ---- what items say
pub names_of : {X : Type 0} (n : ℕ) (f : X → Transition) (xs : List X) → NameTypes n (map f xs) → All (λ x. (f x).type_index < n) xs
names_of n f xs all k d l = let e = get_or-map f xs k d (f d) l in grind (arith, length-map)

pub names_are : {X : Type 0} (n : ℕ) (f : X → Transition) (xs : List X) → All (λ x. (f x).type_index < n) xs → NameTypes n (map f xs)
names_are n f = All-map (λ t. t.type_index < n) f

-- what decides whether lists make a zone
pub ruleset list_tests = (names_are, names_of, No_type, Not_rising, Other_index, Other_leaps, Other_rule)
