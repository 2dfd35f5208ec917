-- Windows: the transitions that come near a local time, for the offsets that a zone has.
use Rattle.std.specs.Prelude.{ℕ, ◌≡◌, ◌&&◌, List, [], ◌∷◌, ◌++◌, length, map, filter, Contains, All, ℤ, ◌-ℤ◌, ◌≤ℤ◌, int_le, int_lt, Option, Some, None}
use Rattle.tz_base.specs.LocalTypes.{LocalType}
use Rattle.tz_info.specs.{Leaps.{IsLeapTime}, Zones.{Zone}, declared.rule.transition_rule.TransitionRule.{TransitionRule, TheVariants.{Fixed, Alternate}}}
use Rattle.tz_base.specs.declared.transition.Transition.{Transition}

-- the offsets of a rule's types
abbrev pub rule_offsets : Option TransitionRule → List ℤ
rule_offsets None = []
rule_offsets (Some (Fixed only)) = only.offset ∷ []
rule_offsets (Some (Alternate a)) = a.std.offset ∷ (a.dst.offset ∷ [])

-- the offsets of all types, those of the rule too
abbrev pub offsets : List LocalType → Option TransitionRule → List ℤ
offsets types rule = map (λ t. t.offset) types ++ rule_offsets rule

-- g is the greatest of the numbers
pub record IsGreatest (xs : List ℤ) (g : ℤ) : Type 0 where
  pub among : Contains xs g
  pub most : All (λ x. x ≤ℤ g) xs

-- g is the least of the numbers
pub record IsLeast (xs : List ℤ) (g : ℤ) : Type 0 where
  pub among : Contains xs g
  pub fewest : All (λ x. g ≤ℤ x) xs

-- the transitions after the one leap time that are not after the other
abbrev pub come_between : List Transition → ℤ → ℤ → List Transition
come_between transitions low high = filter (λ t. int_lt low t.unix_leap_time && int_le t.unix_leap_time high) transitions

-- the leap times of the local time less the greatest offset, and less the least
pub record IsWindow (z : Zone) (local low high : ℤ) : Type 0 where
  pub greatest : ℤ
  pub least : ℤ
  pub is_greatest : IsGreatest (offsets z.types z.rule) greatest
  pub is_least : IsLeast (offsets z.types z.rule) least
  pub is_low : IsLeapTime z.leaps (local -ℤ greatest) low
  pub is_high : IsLeapTime z.leaps (local -ℤ least) high

-- k transitions come in the window of the local time
pub record IsWindowCount (z : Zone) (local : ℤ) (k : ℕ) : Type 0 where
  pub low : ℤ
  pub high : ℤ
  pub window : IsWindow z local low high
  pub count : k ≡ length (come_between z.transitions low high)
