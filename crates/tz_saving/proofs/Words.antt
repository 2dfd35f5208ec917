-- The words that this crate's proofs cite, passed on from the crates below and from specs/.
pub use Rattle.std.specs.Prelude.{FitsSigned, suc, zero, ℕ}
pub use Rattle.tz_info.{
  proofs.Fits.fits,
  proofs.Words.{Change, LocalType, None, Option, SFits, Some, TypeAt, Zone, ap, arith, by_lt_z, false, false≢true, inl, inr, ints, linear, neg_ℤ, pos, refl},
  proofs.Words.{rules, subst, sym, to_z-of_z, true, w32, w64, ℤ, ◌-ℤ◌, ◌<ℤ◌, ◌∙◌, ◌≡◌, ◌≤ℤ◌},
  proofs.ZoneLaws.type_once,
  specs.{Changes.IsChange, declared.rule.transition_rule.TransitionRule.TransitionRule},
}
pub use Rattle.tz_saving.specs.{
  Amounts.{IsOfTwo.{Both, Of_next, Usual}, IsAmount, IsByCandidates, IsFlaggedAmount, IsNextCandidate, IsNextUse, IsOfTwo},
  Amounts.{AreCandidates, IsCandidate, IsOnly},
  Amounts.IsSavingAt,
  Sides.{IsAfter.At_a_second, IsAfter, IsBefore, IsFirstAfter, IsFound, IsStandard},
  Steps.Walks.{AreTurnsFar, IsNearestTurn, IsWalkedTo, IsWanted, is_forward},
  declared.{saving.Saving.Saving, sides.Wanted.TheVariants.Standard},
}
unfoldable pub use Rattle.tz_saving.specs.Sides.{HasChanges}
