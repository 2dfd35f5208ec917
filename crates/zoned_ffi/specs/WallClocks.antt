-- What is written for wall clocks.
use Rattle.std.specs.{Prelude.{ℤ, ◌≡◌, ◌⊎◌, pos, List}, List.{AllZip}}
use Rattle.naive_base.specs.Range.{IsInRange}
use Rattle.offset_core.specs.{WallAnswer.{IsWallAnswer}, declared.local_result.LocalResult.{LocalResult, TheVariants.{None, Single, Ambiguous}}}
use Rattle.tz_base.specs.LocalTypes.{LocalType}
use Rattle.tz_info.specs.{WallClocks.{Shows}, Zones.{Zone, TypeAt}}
use Rattle.zoned_ffi.specs.declared.local_result.WrittenLocalResult.{WrittenLocalResult}

-- a clock of the zone shows the local time at the second u; the answer is that second and the offset in force then
abbrev pub ShowsAt : Zone → ℤ → ℤ → ℤ × ℤ → Type 0
ShowsAt z local u told = (told.0 ≡ u) × ((t : LocalType) × Shows (TypeAt z) local u t × (told.1 ≡ t.offset))

-- how a wall clock's answer is written
abbrev pub written : LocalResult (ℤ × ℤ) → WrittenLocalResult
written None = record { shown = pos 0; first_offset = pos 0; last_offset = pos 0; first = pos 0; last = pos 0 }
written (Single told) =
    record { shown = pos 1; first_offset = told.1; last_offset = told.1; first = told.0; last = told.0 }
written (Ambiguous first last) =
    record { shown = pos 2; first_offset = first.1; last_offset = last.1; first = first.0; last = last.0 }

-- what is written of a local time outside the calendar's range
abbrev pub out_of_range : WrittenLocalResult
out_of_range = record { shown = pos 3; first_offset = pos 0; last_offset = pos 0; first = pos 0; last = pos 0 }

-- what is written of a local time
abbrev pub IsWallClockAt : Zone → ℤ → WrittenLocalResult → Type 0
IsWallClockAt z local w =
    (IsInRange local × ((answer : LocalResult (ℤ × ℤ)) × IsWallAnswer (ShowsAt z local) answer × (w ≡ written answer)))
    ⊎ (¬ (IsInRange local) × (w ≡ out_of_range))

-- one answer for each local time, in the same order
abbrev pub AreWallClocks : Zone → List ℤ → List WrittenLocalResult → Type 0
AreWallClocks z locals clocks = AllZip (IsWallClockAt z) locals clocks
