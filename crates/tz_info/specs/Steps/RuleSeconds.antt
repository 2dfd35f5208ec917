-- A rule's seconds from one second on: the types there, and how often the rule is asked for a local time.
use Rattle.std.specs.Prelude.{ℕ, ℤ, ◌≡◌, ◌+◌, ◌-ℤ◌, ◌≤ℤ◌, ◌<ℤ◌, ◌⊎◌, Contains, Some}
use Rattle.tz_base.specs.LocalTypes.{LocalType, IsUtOffset}
use Rattle.tz_info.specs.{Questions.{IsAskedAtEach}, RuleTypes.{RuleAt}, Windows.{rule_offsets}, declared.rule.transition_rule.TransitionRule.{TransitionRule}}

-- the second u comes at `from` or later, and the rule's type there is t
pub record TypeFrom (rule : TransitionRule) (from u : ℤ) (t : LocalType) : Type 0 where
  pub type : RuleAt rule u t
  pub since : from ≤ℤ u

-- one more question if the second u comes at `from` or later, else none
abbrev pub IsAskedSince : ℤ → ℤ → ℕ → ℕ → Type 0
IsAskedSince from u before after = ((from ≤ℤ u) × (after ≡ before + 1)) ⊎ ((u <ℤ from) × (after ≡ before))

-- at the second u, which comes at `from` or later, a clock at an offset of the rule's types shows the local time
pub record IsSecondFrom (rule : TransitionRule) (from local u : ℤ) : Type 0 where
  pub offset : ℤ
  pub of_rule : Contains (rule_offsets (Some rule)) offset
  pub of_second : u ≡ local -ℤ offset
  pub since : from ≤ℤ u

-- one question more for each such second
abbrev pub IsAskedFrom : TransitionRule → ℤ → ℤ → ℕ → ℕ → Type 0
IsAskedFrom rule from local before after = IsAskedAtEach (IsSecondFrom rule from local) before after

-- each offset of the rule's types is one that a type may have
abbrev pub AreUtOffsets : TransitionRule → Type 0
AreUtOffsets rule = (o : ℤ) → Contains (rule_offsets (Some rule)) o → IsUtOffset o
