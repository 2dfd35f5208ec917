-- Questions to a zone's rule, counted.
use Rattle.std.specs.Prelude.{ℕ, ℤ, ◌≡◌, ◌≢◌, ◌+◌, ◌-ℤ◌, ◌<◌, ◌↔◌, ◌⊎◌, List, length, AllPairs, Contains, Some}
use Rattle.tz_info.specs.{Leaps.{IsLeapTime}, Windows.{rule_offsets}, Zones.{Zone, IsFromLast}, declared.rule.transition_rule.TransitionRule.{TransitionRule}}

-- the rule says the type at the second u: the zone has a rule, and no transition comes after the second's leap time
pub record IsByRule (z : Zone) (u : ℤ) : Type 0 where
  pub rule : TransitionRule
  pub of_zone : z.rule ≡ Some rule
  pub leap_time : ℤ
  pub of_second : 0 < length z.transitions → IsLeapTime z.leaps u leap_time
  pub from_last : IsFromLast z leap_time

-- one more question if the rule gives the type at the second u, else none
abbrev pub IsAskedAt : Zone → ℤ → ℕ → ℕ → Type 0
IsAskedAt z u before after = (IsByRule z u × (after ≡ before + 1)) ⊎ ((¬ (IsByRule z u)) × (after ≡ before))

-- at the second u a clock at an offset of the rule's types shows the local time, and the rule says the type there
pub record IsByRuleFor (z : Zone) (local u : ℤ) : Type 0 where
  pub offset : ℤ
  pub of_rule : Contains (rule_offsets z.rule) offset
  pub of_second : u ≡ local -ℤ offset
  pub by_rule : IsByRule z u

-- one question more for each second that `asks` takes
pub record IsAskedAtEach (asks : ℤ → Type 0) (before after : ℕ) : Type 0 where
  pub seconds : List ℤ
  pub once : AllPairs (λ u v. u ≢ v) seconds
  pub each : (u : ℤ) → Contains seconds u ↔ asks u
  pub count : after ≡ before + length seconds

-- one question more for each second at which a clock at an offset of the rule's types shows the local time, and the rule says
-- the type
abbrev pub IsAskedFor : Zone → ℤ → ℕ → ℕ → Type 0
IsAskedFor z local before after = IsAskedAtEach (IsByRuleFor z local) before after
