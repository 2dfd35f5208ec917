-- Local date-times on 1970-01-01.
use Rattle.std.specs.Prelude.{ℕ, ◌*◌, pos}
use Rattle.naive_base.specs.{Clock.{clock_second}, Reading.{Reading}}

-- that hour, minute and second, and that many milliseconds after it; from 1,000 on they are those of
-- a leap second
abbrev pub clock_reading : ℕ → ℕ → ℕ → ℕ → Reading
clock_reading hour minute second millis = record {
  s = pos (clock_second hour minute second);
  f = millis * 1_000_000;
}
