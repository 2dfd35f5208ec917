-- Signed numbers that are passed on.
use Rattle.zoned_ffi.proofs.Words.{to_z-of_z}

pub ruleset passed_on = to_z-of_z
