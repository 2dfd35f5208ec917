-- The way back from the last second that shows a local time to the change that set clocks back.
use Rattle.std.specs.Prelude.{ℤ, ◌≡◌, ◌+ℤ◌, ◌≤ℤ◌, ◌<ℤ◌}
use Rattle.{
  offset_core.specs.WallAnswer.{IsShownBetween},
  tz_base.specs.LocalTypes.{LocalType},
  tz_info.specs.{WallClocks.{Shows}, Zones.{Zone, TypeAt}},
}

-- several seconds show the local time: the first one and the last one are these
pub record AreEndsOfFold (z : Zone) (local first last : ℤ) : Type 0 where
  pub first_type : LocalType
  pub last_type : LocalType
  pub several : IsShownBetween (Shows (TypeAt z) local) first_type last_type
  pub is_first : several.first ≡ first
  pub is_last : several.last ≡ last

-- from the second `end` on, which comes after the first one, clocks show less until the last one
pub record IsBackTo (z : Zone) (local first last end : ℤ) : Type 0 where
  pub after_first : first <ℤ end
  pub not_later : end ≤ℤ last
  pub less : (u : ℤ) (t : LocalType) → end ≤ℤ u → u <ℤ last → TypeAt z u t → (u +ℤ t.offset) <ℤ local
