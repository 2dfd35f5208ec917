-- Standard time on both sides of a second, within reach: how many clock changes away it may be.
use Rattle.std.specs.{Prelude.{ℤ, ◌≡◌, ◌≤ℤ◌, ◌<ℤ◌, FitsSigned, false, Option, Some, None, MatchOption, ℕ, zero, suc, pos, ◌-ℤ◌, ⊤}, Int.{w64}}
use Rattle.tz_base.specs.{LocalTypes.{LocalType}, declared.change.Change.{Change}}
use Rattle.tz_info.specs.declared.rule.transition_rule.TransitionRule.{TransitionRule}
use Rattle.tz_info.specs.{declared.rule.transition_rule.TransitionRule.TheVariants.{Fixed, Alternate}, Changes.{IsChange}}

-- at least n clock changes come after the second `from` and no later than `to`
unfoldable pub HasChanges : (ℤ → LocalType → Type 0) → ℕ → ℤ → ℤ → Type 0
HasChanges in_force zero from to = ⊤
HasChanges in_force (suc n) from to =
    (last : Change) × IsChange in_force last × (from <ℤ last.at) × (last.at ≤ℤ to) × HasChanges in_force n from (last.at -ℤ pos 1)

-- the most clock changes that lie between
abbrev pub reach : ℕ
reach = 64

-- no more clock changes than that come after the second `from` and no later than `to`
abbrev pub IsWithinReach : (ℤ → LocalType → Type 0) → ℤ → ℤ → Type 0
IsWithinReach in_force from to = HasChanges in_force (suc reach) from to → ⊥

-- the second v of 64 bits is standard: a type of that offset is in force, without the DST flag
pub record IsStandard (in_force : ℤ → LocalType → Type 0) (offset v : ℤ) : Type 0 where
  pub fits : FitsSigned w64 v
  pub type : LocalType
  pub in_force_then : in_force v type
  pub standard : type.dst ≡ false
  pub of_type : offset ≡ type.offset

-- of the seconds that `within` takes none is standard
abbrev pub HasNoStandard : (ℤ → LocalType → Type 0) → (ℤ → Type 0) → Type 0
HasNoStandard in_force within = (v offset : ℤ) → IsStandard in_force offset v → within v → ⊥

-- the offset of the last standard second before u, if that is within reach
pub record IsBefore (in_force : ℤ → LocalType → Type 0) (u offset : ℤ) : Type 0 where
  pub at : ℤ
  pub before : at <ℤ u
  pub near : IsWithinReach in_force at u
  pub is : IsStandard in_force offset at
  pub last : (v other : ℤ) → IsStandard in_force other v → v <ℤ u → v ≤ℤ at

-- the seconds after u and within reach
abbrev pub IsSoonAfter : (ℤ → LocalType → Type 0) → ℤ → ℤ → Type 0
IsSoonAfter in_force u v = (u <ℤ v) × IsWithinReach in_force u v

-- the offset of the first standard second after u, if that is within reach
pub record IsFirstAfter (in_force : ℤ → LocalType → Type 0) (u offset : ℤ) : Type 0 where
  pub at : ℤ
  pub after : IsSoonAfter in_force u at
  pub is : IsStandard in_force offset at
  pub first : (v other : ℤ) → IsStandard in_force other v → u <ℤ v → at ≤ℤ v

-- the offset of a rule's standard time, if it has two types
abbrev pub IsRuleStandard : Option TransitionRule → ℤ → Type 0
IsRuleStandard (Some (Alternate a)) offset = offset ≡ a.std.offset
IsRuleStandard (Some (Fixed only)) offset = ⊥
IsRuleStandard None offset = ⊥

-- the offset of the first standard second after u or, if none is within reach, of the rule's standard time
pub data IsAfter (in_force : ℤ → LocalType → Type 0) (rule : Option TransitionRule) (u offset : ℤ) : Type 0 where
  At_a_second : IsFirstAfter in_force u offset → IsAfter in_force rule u offset
  Of_rule : HasNoStandard in_force (IsSoonAfter in_force u) → IsRuleStandard rule offset → IsAfter in_force rule u offset

-- a number with that property, or nothing if no number has it
abbrev pub IsFound : (ℤ → Type 0) → Option ℤ → Type 0
IsFound is found = MatchOption found ((a : ℤ) → is a → ⊥) is
