-- Lemmas for the crates above.
use Rattle.std.proofs.Common.{◌≡◌, arith, Option}
use Rattle.std.specs.Prelude.{SomeIff, option_map}
use Rattle.offset_core.specs.{declared.local_result.LocalResult.{LocalResult}, LocalResult.{map_of, all_or_none, IsAndThen}}
pub use Rattle.offset_core.proofs.Arounds.{HoldsOfTaken, map_around, map_outcome, map_taken, one_around, one_outcome, taken_holds, taken_in_range}
pub use Rattle.offset_core.proofs.{Arounds.{taken_of_images, taken_right}, FixedOffsets.{one_offset}, Printed.{clock_of, pair_at}}
pub use Rattle.offset_core.proofs.WallAnswers.{HasOneValue, IsWallAnswer-map_of, one_wall_answer}

-- the values that are there, shown, are the shown ones that are there
pub map_all : {D Z : Type 0} (show : D → Z) (x : LocalResult (Option D))
    → map_of show (all_or_none x) ≡ all_or_none (map_of (option_map show) x)
map_all show x = grind arith

-- what a closure gave for each value, if each of its calls keeps K, and gives v if and only if p holds
pub and_then_told : {F O D Z : Type 0} (show : D → Z) (p : O → Type 0) (v : O → Z) (step : F → O → Option D → F → Type 0)
    (f : F) (K : F → Type 0) (offsets : LocalResult O) (result : LocalResult D) → K f
    → ((e g : F) (o : O) (d : Option D) → K e → step e o d g → K g × SomeIff (option_map show d) (p o) (v o))
    → IsAndThen step f offsets result → IsAndThen (λ _ o d _. SomeIff d (p o) (v o)) (tt {0}) offsets (map_of show result)
and_then_told show p v step f K offsets result k is h = grind (arith, map_all)
