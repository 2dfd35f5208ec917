-- The odd zone's offset at each second since 1970-01-01 00:00:00.
use Rattle.std.specs.Prelude.{ℤ, pos}
use Rattle.naive_base.specs.Year.{floor_mod}

-- 1 at odd seconds, 0 at even ones
abbrev pub odd_offset : ℤ → ℤ
odd_offset u = pos (floor_mod u 2)
