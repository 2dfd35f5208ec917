-- Questions to the rule, counted.
use Rattle.std.specs.Prelude.{ℕ, ℤ, ◌≡◌, ◌+◌, ◌⊎◌, Some, None}
use Rattle.tz_info.specs.{Zones.{Zone, IsBeforeLast, IsFromLast}, declared.rule.transition_rule.TransitionRule.{TransitionRule}}

-- one more question if the rule gives the type at the leap time x, else none
abbrev pub IsAskedAtLeapTime : Zone → ℤ → ℕ → ℕ → Type 0
IsAskedAtLeapTime z x before after =
    ((rule : TransitionRule) × (z.rule ≡ Some rule) × IsFromLast z x × (after ≡ before + 1))
    ⊎ ((z.rule ≡ None) × (after ≡ before))
    ⊎ (IsBeforeLast z x × (after ≡ before))
