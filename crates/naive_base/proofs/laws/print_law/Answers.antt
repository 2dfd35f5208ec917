use Rattle.naive_base.proofs.{Words.{NaiveDateTime, arith, reading, reading_text, ℕ, [], ◌<◌, ◌≡◌}, Alike.{day_text-read, reading_text-read, time_text-read}}
use Rattle.naive_base.proofs.Values.{same_date, same_reading, same_time}
use Rattle.naive_base.proofs.laws.print_law.Goals as goal

readings : (between : ℕ) (a b : NaiveDateTime) → (reading a).f < 1_000_000_000 → (reading b).f < 1_000_000_000
    → reading_text between (reading a) ≡ reading_text between (reading b) → a ≡ b
readings between a b plain plain₂ e =
    grind (arith, same_reading, reading_text-read between (reading a) a.in_range.0 plain, reading_text-read between (reading b) b.in_range.0 plain₂)

pub returns : goal.returns
returns c = record {
  dates = λ a b e. grind (arith, same_date a b, day_text-read a.day [] a.in_range, day_text-read b.day [] b.in_range);
  times = λ a b plain plain₂ e. grind (arith, same_time a b, time_text-read a.secs a.frac a.in_range.0 plain, time_text-read b.secs b.frac b.in_range.0 plain₂);
  readings = readings 32;
  debugged = readings 84;
}
