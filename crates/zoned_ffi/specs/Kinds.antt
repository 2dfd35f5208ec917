-- How bytes are read, by the number of a kind, the zones that they spell then, and files that are above the limits of a caller.
use Rattle.std.specs.{Prelude.{ℕ, ◌≡◌, List, ◌<◌, ◌⊎◌}, Str.{IsUtf8}}
use Rattle.tz_info.specs.{PosixZones.{IsPosixZone, IsExtendedZone}, TzFiles.{IsTzFile}, Zones.{Zone, IsValid}}
use Rattle.tz_file.specs.{FilePieces.{HasCounts}, declared.pieces.FileCounts.{FileCounts}}
use Rattle.zoned_ffi.specs.declared.kind.Kind.{Kind}
use Rattle.zoned_ffi.specs.declared.kind.Kind.TheVariants as kinds

abbrev pub kind_number : Kind → ℕ
kind_number kinds.File = 0
kind_number kinds.Text = 1
kind_number kinds.ExtendedText = 2

-- there is a kind of that number
abbrev pub IsKind : ℕ → Type 0
IsKind number = (kind : Kind) × (number ≡ kind_number kind)

-- bytes of that kind spell the zone: a TZif file of valid lists, a TZ string in UTF-8, or a TZ string with extensions
abbrev pub SpellsZone : Kind → List ℕ → Zone → Type 0
SpellsZone kinds.File bytes z = IsTzFile bytes z × IsValid z
SpellsZone kinds.Text bytes z = IsUtf8 bytes × IsPosixZone bytes z
SpellsZone kinds.ExtendedText bytes z = IsExtendedZone bytes z

-- the bytes, read by the kind of that number, spell the zone
abbrev pub IsZoneOf : ℕ → List ℕ → Zone → Type 0
IsZoneOf number bytes z = (kind : Kind) × (number ≡ kind_number kind) × SpellsZone kind bytes z

-- bytes of that kind are a file, and the block that says what its zone is has more transitions or leap seconds than those
pub record IsAboveLimits (kind : ℕ) (bytes : List ℕ) (transitions leap_seconds : ℕ) : Type 0 where
  pub of_file : kind ≡ kind_number kinds.File
  pub counts : FileCounts
  pub has : HasCounts bytes counts
  pub above : (transitions < counts.transitions) ⊎ (leap_seconds < counts.leap_seconds)
