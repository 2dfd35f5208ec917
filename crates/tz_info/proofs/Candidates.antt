-- The candidates of a wall clock: each second that shows a local time is that time less the offset of a type in force there.
use Rattle.offset_core.specs.declared.local_result.LocalResult.TheVariants.{None, Single}
use Rattle.tz_info.proofs.{
  AnswerLaws.same_answer,
  RuleLaws.rule_once,
  Words.{Alternate as AlternateRule, AlternateAt, Contains, FitsSigned, IsAskedLast, IsWallAnswer, LocalResult, LocalType, RuleAt, Shows, Some, TransitionRule},
  Words.{TypeFrom, arith, inl, inr, joined, linear, rule_offsets, w64, ℤ, ◌+ℤ◌, ◌-ℤ◌, ◌<ℤ◌, ◌≡◌, ◌≤ℤ◌, ◌⊎◌},
}
use Rattle.tz_info.specs.declared.rule.transition_rule.TransitionRule.TheVariants.{Alternate}

-- a second that shows the local time at a type is the local time less the type's offset
pub shown_at : (u l : ℤ) (t s : LocalType) → u +ℤ t.offset ≡ l → t ≡ s → u ≡ l -ℤ s.offset
shown_at u l t s h e = grind linear

-- ---- all candidates, none before them
-- two, the greater offset first, since its second is the earlier one
pub asked_both : (at : ℤ → LocalType → Type 0) (l o p : ℤ) (one two : LocalResult LocalType) → p <ℤ o
    → ((u : ℤ) (t : LocalType) → Shows at l u t → (u ≡ l -ℤ o) ⊎ (u ≡ l -ℤ p)) → IsAskedLast at l o None one → IsAskedLast at l p one two
    → IsWallAnswer (Shows at l) two
asked_both at l o p one two less both (inl (e, none)) g = grind arith
asked_both at l o p one two less both (inr (s, k, e)) g = grind linear

-- a rule and a type
module _ (a : AlternateRule) (t : LocalType) where
  -- ---- a rule's
  -- an alternate rule has its standard type or its daylight saving type
  pub one_of_two : (u : ℤ) → AlternateAt a u t → (t ≡ a.std) ⊎ (t ≡ a.dst)
  one_of_two u k = grind arith

  pub std_or_dst : (from l u : ℤ) → Shows (TypeFrom (Alternate a) from) l u t → (u ≡ l -ℤ a.std.offset) ⊎ (u ≡ l -ℤ a.dst.offset)
  std_or_dst _ l u s = grind (arith, shown_at)

  pub dst_or_std : (from l u : ℤ) → Shows (TypeFrom (Alternate a) from) l u t → (u ≡ l -ℤ a.dst.offset) ⊎ (u ≡ l -ℤ a.std.offset)
  dst_or_std from l u s = let o = std_or_dst from l u s in grind arith

-- the offset of a rule's type is one of the rule's offsets
pub offset_of_rule : (rule : TransitionRule) (u : ℤ) (t : LocalType) → RuleAt rule u t → Contains (rule_offsets (Some rule)) t.offset
offset_of_rule rule u t k = grind (linear, one_of_two)

-- if both offsets are equal
pub one_second : (a : AlternateRule) (from l : ℤ) → a.std.offset ≡ a.dst.offset → (u : ℤ) (t : LocalType)
    → Shows (TypeFrom (Alternate a) from) l u t → u ≡ l -ℤ a.std.offset
one_second a from l same u t s = let o = std_or_dst a t from l u s in grind linear

-- the rule's type decides at a candidate
pub asked_found : (rule : TransitionRule) (from l o : ℤ) (t : LocalType) (before : LocalResult LocalType) → FitsSigned w64 (l -ℤ o) → from ≤ℤ (l -ℤ o)
    → RuleAt rule (l -ℤ o) t → t.offset ≡ o → IsAskedLast (TypeFrom rule from) l o before (joined before (Single t))
asked_found _ _ l o t _ fits since k e = grind linear

pub asked_other : (rule : TransitionRule) (from l o : ℤ) (t : LocalType) (before : LocalResult LocalType) → RuleAt rule (l -ℤ o) t → (t.offset ≡ o → ⊥)
    → IsAskedLast (TypeFrom rule from) l o before before
asked_other rule from l o t before k other = grind (linear, rule_once)

-- from the first second of 64 bits on all that show the local time are asked
pub from_least : (rule : TransitionRule) (from l : ℤ) (answer : LocalResult LocalType) → ((u : ℤ) → FitsSigned w64 u → from ≤ℤ u)
    → IsWallAnswer (Shows (TypeFrom rule from) l) answer → IsWallAnswer (Shows (RuleAt rule) l) answer
from_least _ _ l _ all s = grind (linear, same_answer)
