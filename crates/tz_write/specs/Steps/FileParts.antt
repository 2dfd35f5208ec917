-- What the parts of a written file rest on.
use Rattle.std.specs.Prelude.{◌≡◌, All, Some}
use Rattle.tz_info.specs.Zones.{Zone}
use Rattle.tz_file.specs.declared.header.Counts.{Counts}
use Rattle.tz_write.specs.{FileDesignations.{AreShortest}, Steps.{LaidFiles.{counts_of, zone_counts}, LaidNames.{HavePlaces, laid_names}}}
use Rattle.tz_write.specs.{WrittenFiles.{HasCounts, HasIndex}, declared.file.{header.Sizes.{Sizes}, writer.Room.{Room}}}

abbrev pub counts_in : Sizes → Counts
counts_in s = counts_of s.leap_seconds s.transitions s.types s.designations

-- the second block has room for the zone with those designations, and has those counts
pub record IsRoomOf (z : Zone) (room : Room) : Type 0 where
  pub counts : HasCounts z
  pub indexes : All HasIndex z.transitions
  pub places : HavePlaces room.designations z.types
  pub laid : laid_names z.types ≡ Some room.designations
  pub shortest : AreShortest room.designations z.types
  pub counts_are : counts_in room.sizes ≡ zone_counts room.designations z
