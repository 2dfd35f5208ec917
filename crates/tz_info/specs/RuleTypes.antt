-- A rule's type at an instant (POSIX.1 section 8.3).
use Rattle.std.specs.Prelude.{◌≡◌, ℤ}
use Rattle.tz_base.specs.LocalTypes.{LocalType}
use Rattle.tz_info.specs.{Rules.{IsAlternateRule}, Moments.{AlternateAt, IsAlternateRefused}, declared.rule.transition_rule.TransitionRule.{TransitionRule}}
use Rattle.tz_info.specs.declared.rule.transition_rule.TransitionRule.TheVariants.{Fixed, Alternate}

-- the rule's type at the second u is t
abbrev pub RuleAt : TransitionRule → ℤ → LocalType → Type 0
RuleAt (Fixed fixed) u t = t ≡ fixed
RuleAt (Alternate a) u t = AlternateAt a u t

-- the rule has no type at the second u
abbrev pub IsRuleRefused : TransitionRule → ℤ → Type 0
IsRuleRefused (Fixed fixed) u = ⊥
IsRuleRefused (Alternate a) u = IsAlternateRefused u

-- the numbers of the rule are in their limits
abbrev pub IsRule : TransitionRule → Type 0
IsRule (Fixed fixed) = Unit {0}
IsRule (Alternate a) = IsAlternateRule a
