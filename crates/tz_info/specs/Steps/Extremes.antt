-- The least and the greatest of some offsets, and how they are found.
use Rattle.std.specs.Prelude.{◌≡◌, ◌⊎◌, List, map, ℤ, ◌≤ℤ◌}
use Rattle.tz_base.specs.LocalTypes.{LocalType}
use Rattle.tz_info.specs.{
  Windows.{IsGreatest, IsLeast},
  declared.{rule.transition_rule.TransitionRule.{TransitionRule, TheVariants.{Fixed, Alternate}}, zone.made.extremes.Extremes.{Extremes}},
}

abbrev pub offsets_of : List LocalType → List ℤ
offsets_of types = map (λ t. t.offset) types

-- those of the numbers
pub record AreExtremes (xs : List ℤ) (e : Extremes) : Type 0 where
  pub greatest : IsGreatest xs e.greatest
  pub least : IsLeast xs e.least

-- those of the old ones and of one offset more
pub record AreJoined (old : Extremes) (offset : ℤ) (new : Extremes) : Type 0 where
  pub most : old.greatest ≤ℤ new.greatest
  pub most_here : offset ≤ℤ new.greatest
  pub greatest_from : (new.greatest ≡ old.greatest) ⊎ (new.greatest ≡ offset)
  pub fewest : new.least ≤ℤ old.least
  pub fewest_here : new.least ≤ℤ offset
  pub least_from : (new.least ≡ old.least) ⊎ (new.least ≡ offset)

-- and of the offsets of the rule's types
abbrev pub AreJoinedByRule : Extremes → TransitionRule → Extremes → Type 0
AreJoinedByRule old (Fixed only) new = AreJoined old only.offset new
AreJoinedByRule old (Alternate a) new = (one : Extremes) × AreJoined old a.std.offset one × AreJoined one a.dst.offset new
