-- The zone that a handle has open, and why a question by a handle is refused.
use Rattle.std.specs.{Prelude.{ℕ, ◌≡◌, ◌≢◌, ◌⊎◌}, Arc.{arc_value}, declared.{alloc.Global.{Global}, option.Option.{Option, TheVariants.{None, Some}}}}
use Rattle.std.specs.declared.sync.Arc.{Arc}
use Rattle.tz_info.specs.Zones.{Zone}
use Rattle.zoned_ffi.specs.declared.{handle.Handle.{Handle}, lent.Lent.{Lent}}

-- the zone of a share
abbrev pub shared_zone : Option (Arc Zone Global) → Option Zone
shared_zone None = None
shared_zone (Some share) = Some (arc_value share)

-- the handle has the zone open
abbrev pub IsOpen : Handle → Zone → Type 0
IsOpen handle z = shared_zone handle.shared ≡ Some z

-- the handle has no zone open
abbrev pub IsClosed : Handle → Type 0
IsClosed handle = handle.shared ≡ None

-- the zone of a handle that is only read
abbrev pub IsLent : Lent → Zone → Type 0
IsLent lent z = shared_zone lent.shared ≡ Some z

-- a handle that is only read has no zone open
abbrev pub IsNoneLent : Lent → Type 0
IsNoneLent lent = lent.shared ≡ None

-- why a question is refused: no zone is open; or as many answers are wanted, and there is room for another count of them
abbrev pub IsUnanswered : Lent → ℕ → ℕ → ℕ → Type 0
IsUnanswered lent wanted room n =
    ((n ≡ 33) × IsNoneLent lent) ⊎ ((n ≡ 32) × ((z : Zone) × IsLent lent z) × (wanted ≢ room))
