-- Lemmas for the crates above.
pub use Rattle.zoned_ref.proofs.{Changes.{change_is}, Choices.{choice_covered}, Offsets.{zone_has_offsets}}
