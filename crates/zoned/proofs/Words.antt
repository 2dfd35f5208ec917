-- The words that this crate's proofs cite, passed on from std, from the crates below and from specs/.
pub use Rattle.std.proofs.Common.{None, Option, Some}
pub use Rattle.offset_core.specs.{TimeDelta.{nanos_of}, declared.local_result.LocalResult.{LocalResult}}
pub use Rattle.naive_base.specs.{Range.{last_second}, Reading.{ahead}}
pub use Rattle.tz_base.specs.declared.change.Change.{Change}
pub use Rattle.tz_info.proofs.Words.{AreChanges}
pub use Rattle.zoned_time.proofs.ForCallers.{relocal_shown, resolved_once, stays}
pub use Rattle.zoned_time.proofs.Words.{AreInstantsOf, Each, IsNeverShown, IsRelocal, IsShownBetween, IsShownOnce, ShowsByOffset, home_law_of, wall_of}
pub use Rattle.zoned_time.specs.{DateTime.{IsIn, IsMoved}, declared.datetime.Instant.{Instant}}
pub use Rattle.zoned_round.proofs.Words.{IsMultiple, floors, moved, multiple_below, total}
pub use Rattle.zoned_ref.proofs.Words.{HasInstant, IsAfter, IsAt, IsFirst, IsInRange, IsNarrow, IsWallAnswer, Law, Meaning, Reading, SomeIff, TypeAt, Zoned}
pub use Rattle.zoned_ref.proofs.Words.{all_or_none, floor_div, instant_of, map_of, reading, type_once, zoned, ◌-ℤ◌}
pub use Rattle.tz_write.proofs.Words.{List, MatchOption, Zone, ap, arith, get_or, inr, ints, length, pos, refl, subst, suc, sym, unsigned_abs, zero, ℕ, ℤ, []}
pub use Rattle.tz_write.proofs.Words.{◌+ℤ◌, ◌<ℤ◌, ◌<◌, ◌∙◌, ◌∷◌, ◌≡◌, ◌≢◌, ◌≤ℤ◌, ◌⊎◌}
pub use Rattle.zoned.specs.Headline.{IsFromFirstToLast}
