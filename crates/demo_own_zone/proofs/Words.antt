-- The words that this crate's proofs cite, passed on from std, from the crates below and from specs/.
pub use Rattle.naive_base.proofs.Words.{floor_mod, floor_mod_parts, floors}
pub use Rattle.zoned_time.proofs.ForCallers.{gap_by_seconds, same_itself, wall_by_seconds}
pub use Rattle.zoned_time.proofs.Words.{AreEndsOfDay, IsBeforeGap, IsFirstToReach, IsShownBetween, IsWide, IsWideDay, Reading, SFits, ShowsByOffset, ap, arith}
pub use Rattle.zoned_time.proofs.Words.{midnight, numbers, pos, refl, rules, to_z-of_z, w64, ℤ, ◌*ℤ◌, ◌+ℤ◌, ◌-ℤ◌, ◌≡◌}
pub use Rattle.demo_own_zone.specs.{Odd.{odd_offset}, OddOffset.{law_of}}
