-- What a watched reader or writer shows, and a call on it.
use Rattle.std.specs.Prelude.{ℕ, ◌==◌, ◌&&◌, Bool, true, false, nat_lt, Result, Ok, Err}

-- a watched end: whether it failed or ended, whether something is unsent, and how many reads were made
pub record Watch (T : Type 0) : Type 0 where
  pub inner : T
  pub failed : Bool
  pub ended : Bool
  pub unsent : Bool
  pub reads : ℕ

-- the call answered an error
abbrev pub has_failed : {X E : Type 0} → Result X E → Bool
has_failed (Ok x) = false
has_failed (Err e) = true

-- the call answered 0 bytes though it was given some to fill or to write
abbrev pub gave_nothing : {E : Type 0} → Result ℕ E → ℕ → Bool
gave_nothing (Ok n) given = (n == 0) && nat_lt 0 given
gave_nothing (Err e) given = false

-- the call answered that it gave or took some bytes
abbrev pub gave_something : {E : Type 0} → Result ℕ E → Bool
gave_something (Ok n) = nat_lt 0 n
gave_something (Err e) = false
