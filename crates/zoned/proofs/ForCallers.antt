-- Lemmas for those who implement the trait `TimeZone`.
pub use Rattle.zoned_time.proofs.ForCallers.{same_itself, wall_by_seconds, gap_by_seconds, constant_wall, constant_no_gap}
-- the limits of a date
pub use Rattle.naive_base.proofs.ForCallers.{date_is, month_bounds}
-- of a zone that hands its lookups on to another one
pub use Rattle.zoned.proofs.Wrapped.{IsWrapped, wrapped_wall, wrapped_gap}
