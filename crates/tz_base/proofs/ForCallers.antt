-- Lemmas for the crates above.
pub use Rattle.tz_base.proofs.{RunLaws.{runs_are, tested}, ReadLaws.{drop_front, false_unless, at_least}}
pub use Rattle.tz_base.proofs.Decided.{Decided, value_once, fault_once, apart, either, fault_low, like, said, done, refused, made, choice}
pub use Rattle.tz_base.proofs.{Decided.{guard, and_then}, Lawful.{lawful, end_is, run_splits, run_again, exact_cut}}
pub use Rattle.tz_base.proofs.ChangeEquality.{IsExact, type_exact}
