-- Walks from change to change, on and back, up to one at which the offset changes.
use Rattle.tz_info.proofs.{
  ChangeLaws.one_change,
  Words.{Alternate as AlternateRule, Change, IsBegin, IsFirstChange, IsLastChange, IsNearestOffsetChange, IsValid, KeepsOffset, Some, TypeAt, Zone, false},
  Words.{linear, pos, true, ℤ, ◌-ℤ◌, ◌<ℤ◌, ◌≡◌, ◌≤ℤ◌},
  ZoneChanges.{begun, last_too, to_rule},
}
use Rattle.tz_info.specs.declared.rule.transition_rule.TransitionRule.TheVariants.{Alternate}

-- ---- a rule whose two types have one offset
pub rule_keeps : (z : Zone) (a : AlternateRule) (begin : ℤ) → IsValid z → z.rule ≡ Some (Alternate a) → IsBegin z begin → a.std.offset ≡ a.dst.offset
    → KeepsOffset (TypeAt z) (λ u. begin <ℤ u)
rule_keeps z a _ valid rule h same d is later =
    let change = is.is in
    let all = (begun z _ _ _ valid h change.fits_before change.before).0 (omega linear) in
    let before = to_rule z a _ _ rule valid all change.before in
    let after = to_rule z a _ _ rule valid (last_too z _ valid all) change.after in
    grind linear

-- ---- walks
module _ (z : Zone) (after reached : ℤ) (order : after ≤ℤ reached) (kept : KeepsOffset (TypeAt z) (λ u. (after <ℤ u) × (u ≤ℤ reached))) where
  -- ---- on from the second `after`
  pub found_on : (c : Change) → IsFirstChange (TypeAt z) (λ u. reached <ℤ u) c → (c.before.offset ≡ c.after.offset → ⊥)
      → IsNearestOffsetChange true (TypeAt z) (λ u. after <ℤ u) c
  found_on c next other = grind linear

  pub goes_on : (c : Change) → IsFirstChange (TypeAt z) (λ u. reached <ℤ u) c → c.before.offset ≡ c.after.offset
      → KeepsOffset (TypeAt z) (λ u. (after <ℤ u) × (u ≤ℤ c.at))
  goes_on c next same d is inside = grind (linear, one_change z d c is.is next.is)

module _ (z : Zone) (last reached : ℤ) (order : reached ≤ℤ last) (kept : KeepsOffset (TypeAt z) (λ u. (reached <ℤ u) × (u ≤ℤ last))) where
  -- ---- back from the second `last`
  pub found_back : (c : Change) → IsLastChange (TypeAt z) (λ u. u ≤ℤ reached) c → (c.before.offset ≡ c.after.offset → ⊥)
      → IsNearestOffsetChange false (TypeAt z) (λ u. u ≤ℤ last) c
  found_back c next other = grind linear

  pub goes_back : (c : Change) → IsLastChange (TypeAt z) (λ u. u ≤ℤ reached) c → c.before.offset ≡ c.after.offset
      → KeepsOffset (TypeAt z) (λ u. ((c.at -ℤ pos 1) <ℤ u) × (u ≤ℤ last))
  goes_back c next same d is inside = grind (linear, one_change z d c is.is next.is)
