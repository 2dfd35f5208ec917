-- Tests that a reader makes.
use Rattle.std.specs.{Prelude.{Bool}, Bool.{Decides}}

-- a test that passes if and only if P holds
pub record Test (P : Type 0) : Type 0 where
  pub passes : Bool
  pub decides : Decides passes P
