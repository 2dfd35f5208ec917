-- How an answer of types is written.
use Rattle.std.specs.Prelude.{ℤ, ◌-ℤ◌}
use Rattle.offset_core.specs.{LocalResult.{map_of}, declared.local_result.LocalResult.{LocalResult}}
use Rattle.tz_base.specs.LocalTypes.{LocalType}

-- each type by the second at which a clock of it shows the local time, and its offset
abbrev pub told_of : ℤ → LocalResult LocalType → LocalResult (ℤ × ℤ)
told_of local types = map_of (λ t. (local -ℤ t.offset, t.offset)) types
