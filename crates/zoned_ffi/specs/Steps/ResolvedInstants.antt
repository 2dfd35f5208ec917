-- What is written of an instant that a choice takes.
use Rattle.std.specs.Prelude.{ℤ, ◌-ℤ◌, ◌*ℤ◌, ◌≡◌, ◌⊎◌, pos}
use Rattle.naive_base.specs.Range.{IsInRange}
use Rattle.tz_base.specs.LocalTypes.{LocalType}
use Rattle.tz_info.specs.Zones.{Zone}
use Rattle.zoned_ffi.specs.{WrittenTypes.{IsWrittenOffsetAt}, Resolved.{IsTakenGapEnd, IsTakenType, unresolved}, Units.{per_second}}
use Rattle.zoned_ffi.specs.declared.{choice.Choice.{Choice}, resolved.{Resolved.{Resolved}, Taken.{Taken, TheVariants.{InForce, Shifted, GapEnd}}}}
use Rattle.zoned_ffi.specs.declared.unit.Unit.{Unit}

-- the second u and an offset, or that u is out of range
abbrev pub IsResolvedStamp : ℤ → ℤ → Resolved → Type 0
IsResolvedStamp u offset w =
    (IsInRange u × (w ≡ record { number = 0; offset = offset; instant = u })) ⊎ (¬ (IsInRange u) × (w ≡ unresolved 23))

-- the choice takes a type of that offset; one that shows the local time is in force at the instant
abbrev pub IsTakenAs : Zone → ℤ → Choice → Taken → Type 0
IsTakenAs z local choice (InForce offset) = ((t : LocalType) × IsTakenType z local choice t × (offset ≡ t.offset)) × IsWrittenOffsetAt z (local -ℤ offset)
    offset
IsTakenAs z local choice (Shifted offset) = (t : LocalType) × IsTakenType z local choice t × (offset ≡ t.offset)
IsTakenAs z local choice (GapEnd at offset) = (after : LocalType) × IsTakenGapEnd z local choice at after × (offset ≡ after.offset)

-- the instant by what is taken of the local time, counted in the unit
abbrev pub taken_instant : Unit → ℤ → Taken → ℤ
taken_instant unit local (InForce offset) = local -ℤ (offset *ℤ pos (per_second unit))
taken_instant unit local (Shifted offset) = local -ℤ (offset *ℤ pos (per_second unit))
taken_instant unit local (GapEnd at offset) = at *ℤ pos (per_second unit)
