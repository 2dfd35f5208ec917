-- The words that this crate's proofs cite, passed on from std, from the crates below and from specs/.
pub use Rattle.std.proofs.lemmas.Int.{to_z_pos}
pub use Rattle.naive_base.proofs.ForCallers.{total-moved}
pub use Rattle.naive_base.proofs.Words.{moved, of_total, total, unsigned_abs, ◌-◌, ◌<◌, ◌≤◌}
pub use Rattle.zoned_time.proofs.Words.{IsInRange, Reading, ap, arith, by_lt_z, floor_div, floors, inl, inr, ints, neg_ℤ, pos, reading, w64, ℕ, ℤ, ◌*ℤ◌, ◌+ℤ◌}
pub use Rattle.zoned_time.proofs.Words.{◌-ℤ◌, ◌<ℤ◌, ◌∙◌, ◌≡◌, ◌≤ℤ◌, ◌⊎◌}
pub use Rattle.zoned_round.specs.Durations.{IsGone}
pub use Rattle.zoned_round.specs.Durations.{IsRoundingFault}
pub use Rattle.zoned_round.specs.Laws.{IsGreatestWith, IsLeastWith, IsMultiple, apart}
pub use Rattle.zoned_round.specs.Multiples.{IsItselfOr, multiple_above, multiple_below, nearest_multiple}
pub use Rattle.zoned_round.specs.Subseconds.{nanos_per_digit, rounded}
pub use Rattle.zoned_round.specs.declared.error.RoundingError.{RoundingError}

-- the laws of numbers without a sign and with one
pub ruleset numbers = (arith, ints)
