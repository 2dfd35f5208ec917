-- Lemmas for the crates above.
pub use Rattle.naive_plans.proofs.{Bits.{read_back}, DayPlaces.{in_same_month, least_days, multiples_apart}}
pub use Rattle.naive_plans.proofs.DayWalk.{IsLeft, IsLeftBefore, last_on_day, least_found, none_back, none_on_day, on_day}
