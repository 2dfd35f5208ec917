-- What the reader of a whole TZif file makes, and what it returns.
use Rattle.std.specs.Prelude.{ℕ, ◌≡◌, ◌⊎◌, ◌-◌, List, length, MatchOption, Option}
use Rattle.tz_base.specs.declared.error.Error.{Error, TheVariants.{OutOfMemory}}
use Rattle.tz_file.specs.FilePieces.{FilePieces, HasPieces}
use Rattle.tz_info.specs.{Zones.{Zone}, FilePlaces.{HoldsOfNone, IsFilePlace, IsFirstBelow}, TzFiles.{IsFileFault}, declared.file.reader.Lists.{Lists}}

abbrev pub zone_of_lists : Lists → Zone
zone_of_lists l = record { transitions = l.transitions.items; types = l.types.items; leaps = l.leap_seconds.items; rule = l.rule }

-- why there is no zone: the fault of the file, from which on bytes are left, or too little memory
abbrev pub IsFaultAt : List ℕ → Error → List ℕ → Type 0
IsFaultAt bytes e left =
    (IsFileFault bytes e × IsFilePlace bytes (length bytes - length left)) ⊎ ((e ≡ OutOfMemory) × ((p : FilePieces) × HasPieces bytes p))

-- the first of the numbers below n of which P holds, or nothing if it holds of none
abbrev pub Finds : (ℕ → Type 0) → ℕ → Option ℕ → Type 0
Finds P n found = MatchOption found (HoldsOfNone P n) (IsFirstBelow P n)
