-- What the steps of a recurrence answer.
use Rattle.std.specs.Prelude.{◌↔◌, ℤ, pos, neg_ℤ, ◌≤ℤ◌, ◌<ℤ◌}
use Rattle.naive_rrule.specs.{RecurrenceSets.{IsRuleTime, IsWithinEnd}, declared.recurrence.RecurrenceEnd.{RecurrenceEnd}}
use Rattle.naive_rrule.specs.declared.rule.RecurrenceRule.{RecurrenceRule}

-- the first of a set that comes after a second, and is not after another one
pub record IsFirstLater (set : ℤ → Type 0) (after last l : ℤ) : Type 0 where
  pub one : set l
  pub later : after <ℤ l
  pub not_after : l ≤ℤ last
  pub least : (m : ℤ) → set m → after <ℤ m → l ≤ℤ m

abbrev pub HasNoneLater : (ℤ → Type 0) → ℤ → ℤ → Type 0
HasNoneLater set after last = (m : ℤ) → set m → after <ℤ m → m ≤ℤ last → ⊥

-- an end lets those times through that are not after a second
pub record IsLastSecond (r : RecurrenceRule) (start : ℤ) (end : RecurrenceEnd) (last : ℤ) : Type 0 where
  pub same : (l : ℤ) → IsRuleTime r start l → (l ≤ℤ last) ↔ IsWithinEnd r start end l
  pub bound : (neg_ℤ (pos 10_000_000_000_000) ≤ℤ last) × (last <ℤ pos 253_402_300_800)
