-- The words that this crate's proofs cite, passed on from the crates below and from specs/.
pub use Rattle.zoned_time.proofs.Words.{IsAt, IsFirstInstantFrom, IsFirstSecondOutOfRange, IsFirstToReach, IsInDay, IsInRange, IsOffsetStretch, IsReachedAt}
pub use Rattle.zoned_time.proofs.Words.{IsWide, IsWithinDay, IsZoneSecond, IsZonedFirst, Law, List, MatchOption, Meaning, None, Option, Reading, SFits, Some}
pub use Rattle.zoned_time.proofs.Words.{Zoned, [], arith, by_lt_z, floors, inl, inr, midnight, neg_ℤ, numbers, of_secs, pos, refl, rules, subst, suc, sym}
pub use Rattle.zoned_time.proofs.Words.{to_z-of_z, unsigned_abs, w32, w64, zero, zoned, ℕ, ℤ, ◌*ℤ◌, ◌+ℤ◌, ◌-ℤ◌, ◌<ℤ◌, ◌<◌, ◌↔◌, ◌∙◌, ◌∷◌, ◌≡◌, ◌≤ℤ◌}
pub use Rattle.zoned_time.proofs.ForCallers.{StayWithinDay, adjoint, by_test, first_whole, one_first, reached_near, still_to_come, to_reached}
pub use Rattle.naive_plans.specs.Plans.{HasNoneAfter, HasNoneUntil, IsLastUntil, IsNextAfter}
pub use Rattle.zoned_plans.specs.Fires.{IsFire, IsLastFire, IsNextFire, IsZonedLastFire, IsZonedNextFire, NoneFiresAfter, NoneFiresUntil, RiseFrom}
pub use Rattle.zoned_plans.specs.Nearest.{AreAllOf, IsZonedLastOf, IsZonedNextOf, NoneAfter, NoneBetween, NoneUntil}
pub use Rattle.zoned_plans.specs.Policies.{IsFireBy, IsShownFire}
pub use Rattle.zoned_plans.specs.Steps.Shown.{AreAllQuiet, AreAllQuietUntil, AreQuiet, AreQuietUntil, IsEither, IsFirstPlannedIn, IsFirstShown}
pub use Rattle.zoned_plans.specs.Steps.Shown.{IsLastPlannedIn, IsPast, IsPastUntil, NonePlannedIn, NoneUntilPlannedIn}
