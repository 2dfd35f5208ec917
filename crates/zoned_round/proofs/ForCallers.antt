-- Lemmas for the crates above.
pub use Rattle.zoned_round.proofs.{Instants.{gone-back, gone-in, itself-in}, Multiples.{way-down}}
