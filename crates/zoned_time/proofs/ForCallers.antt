-- Lemmas for the crates above.
pub use Rattle.zoned_time.proofs.Answered.{choice_decided}
pub use Rattle.zoned_time.proofs.Homes.{same_itself, at_home, offsets_home, relocal_home}
pub use Rattle.zoned_time.proofs.Instants.{relocal_once}
pub use Rattle.zoned_time.proofs.Relocals.{relocal_shown}
-- of a zone whose offsets are nothing but seconds
pub use Rattle.zoned_time.proofs.Walls.{wall_by_seconds, gap_by_seconds}
-- of a zone whose offset never changes: its wall clock's answer, and that it has no gap; and that midnights are in the range
pub use Rattle.zoned_time.proofs.Walls.{constant_wall, constant_no_gap}
pub use Rattle.zoned_time.proofs.Once.{resolved_once, not_resolved, one_taken, taken_once, unresolved_once}
pub use Rattle.zoned_time.proofs.Stays.{stays}
-- of days, and of the last local time that clocks have shown
pub use Rattle.zoned_time.proofs.{Days.{first_whole, to_reached}, DayStarts.{StayWithinDay, one_first}}
pub use Rattle.zoned_time.proofs.ReachedTimes.{adjoint, by_test, reached_near, still_to_come}
