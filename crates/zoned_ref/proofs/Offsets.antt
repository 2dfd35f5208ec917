-- A valid zone has one offset at each second that zones answer in.
use Rattle.std.proofs.Math.Logic.{∥∥₁_elim}
use Rattle.tz_info.{specs.declared.rule.transition_rule.TransitionRule.TheVariants.{Alternate, Fixed}, proofs.Words.{Alternate as AlternateRule, IsRefusedBy}}
use Rattle.tz_info.proofs.{Words.{IsTypeOf, IsTypeRefused, by_leap_time, by_rule, slice_get, type_when}, ForCallers.{leap_times_answer, rule_year, type_listed}}
use Rattle.zoned_ref.{specs.Offsets.{HasOffset, HasOffsets, HasOneOffset}, proofs.Words.{All, AreOffsetsOf, Bool, Coded-set}}
use Rattle.zoned_ref.proofs.Words.{IsNarrow, IsRuleOrNone, IsValid, IsWithinDay, IsZoneSecond, List, LocalType, None, Option, Some, TransitionRule, TypeAt}
use Rattle.zoned_ref.proofs.Words.{Zone, arith, coded_ℤ, floor_div, inl, inr, ints, lies_in, offset_at, offset_with, one_offset, refl, rule_types, subst, suc}
use Rattle.zoned_ref.proofs.Words.{type_decided, zero, ℕ, ℤ, [], ◌∙◌, ◌∷◌, ◌≡◌}

-- a rule answers in the years of the range
rule_not_refused : (rule : Option TransitionRule) (u : ℤ) → IsZoneSecond u → IsRefusedBy rule u → ⊥
rule_not_refused (Some (Fixed t)) u inside h = h
rule_not_refused (Some (Alternate a)) u inside h =
    let lies = lies_in (floor_div u 86_400) in grind (arith, ints, rule_year)
rule_not_refused None u inside h = h

pub not_refused : (z : Zone) (u : ℤ) → IsValid z → IsZoneSecond u → IsTypeRefused z u → ⊥
not_refused z u valid inside (by_leap_time some refused) =
    leap_times_answer z.leaps u valid.leaps (omega (arith, ints)) (omega (arith, ints)) refused
not_refused z u valid inside (by_rule x of_second last refused) = rule_not_refused z.rule u inside refused

pub zone_has_offsets : (z : Zone) → IsValid z → IsRuleOrNone z.rule → HasOffsets z
zone_has_offsets z valid rule u inside = elim (type_decided z u valid rule) [
  | inl t ↦ (t.0.offset, record { type = t.0; in_force = t.1; offset = refl })
  | inr refused ↦ absurd (not_refused z u valid inside refused)
]

-- the function gives it
pub are_offsets : (z : Zone) (some : ∥ HasOffsets z ∥₁) → HasOffsets z → AreOffsetsOf z (offset_at z some)
are_offsets z some has u inside =
    let k = has u inside in
    let same : offset_at z some u ≡ k.0 =
    ∥∥₁_elim ((offset_with z some u).1 inside) (Coded-set coded_ℤ (offset_at z some u) k.0) (λ a. one_offset z u (offset_at z some u) k.0 a k.1) in
    grind arith

-- ---- what holds of each type that the zone lists, and of each of its rule, holds of the type in force
all_listed : {X : Type 0} (P : X → Type 0) (xs : List X) (i : ℕ) (x : X) → slice_get xs i ≡ Some x → All P xs → P x
all_listed P [] i x h all = cc
all_listed P (y ∷ xs) zero x h all = let same : y ≡ x = cc in subst P same (all 0 y (omega arith))
all_listed P (y ∷ xs) (suc i) x h all = all_listed P xs i x h (λ k d l. all (suc k) d (omega arith))

module _ (P : LocalType → Type 0) where
  turn_has : (a : AlternateRule) (dst : Bool) → All P (a.std ∷ a.dst ∷ []) → P (type_when a dst)
  turn_has a dst all = grind arith

  rule_has : (rule : Option TransitionRule) (u : ℤ) (t : LocalType) → All P (rule_types rule) → IsTypeOf rule u t → P t
  rule_has rule u t all h = grind (arith, turn_has)

  type_has : (z : Zone) (u : ℤ) (t : LocalType) → All P z.types → All P (rule_types z.rule) → TypeAt z u t → P t
  type_has z u t types rule h = elim (type_listed z u t h) [
    | inl k ↦ all_listed P z.types k.0 t k.2 types
    | inr of_rule ↦ rule_has z.rule u t rule of_rule
  ]

-- if all have one offset, that is the zone's
pub offset_alone : (z : Zone) (off : ℤ → ℤ) (k : ℤ) → AreOffsetsOf z off → HasOneOffset z k → (u : ℤ) → IsZoneSecond u → off u ≡ k
offset_alone z off k of_zone one u inside =
    let there = of_zone u inside in there.offset ∙ type_has (λ s. s.offset ≡ k) z u there.type one.types one.rule there.in_force

-- in a narrow zone each is within a day
pub type_within : (z : Zone) (u : ℤ) (t : LocalType) → IsNarrow z → TypeAt z u t → IsWithinDay t.offset
type_within z u t narrow h = type_has (λ s. IsWithinDay s.offset) z u t narrow.types narrow.rule h

pub offset_within : (z : Zone) (u k : ℤ) → IsNarrow z → HasOffset z u k → IsWithinDay k
offset_within z u k narrow h = rw h.offset (type_within z u h.type narrow h.in_force)

pub offsets_within : (z : Zone) (some : ∥ HasOffsets z ∥₁) → HasOffsets z → IsNarrow z → (u : ℤ) → IsZoneSecond u → IsWithinDay (offset_at z some u)
offsets_within z some has narrow u inside = grind (arith, are_offsets, offset_within)
