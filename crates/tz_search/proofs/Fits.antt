-- A signed number that fits its width is read back from its bits.
use lib.Signed.{mag}
use mir.Syntax.{w128}
use Rattle.std.specs.Int.{w32}
use Rattle.tz_search.proofs.Words.{SFits, to_z-of_z, w64, ℤ, ◌<◌}

-- Calls return such numbers, as each call's `type_inv` says.
pub fits_64 : (z : ℤ) → mag z < 9_223_372_036_854_775_808 → SFits w64 z
fits_64 z h = record { sfits = h }

pub fits_32 : (z : ℤ) → mag z < 2_147_483_648 → SFits w32 z
fits_32 z h = record { sfits = h }

pub fits_128 : (z : ℤ) → mag z < 170_141_183_460_469_231_731_687_303_715_884_105_728 → SFits w128 z
fits_128 z h = record { sfits = h }

pub ruleset fits = (to_z-of_z, fits_64, fits_32, fits_128)

-- what a number in its range is read as
pub ruleset in_range = to_z-of_z
