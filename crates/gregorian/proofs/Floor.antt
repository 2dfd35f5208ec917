-- The ruleset `floors`, whose page is among the steps of definitions.
pub use Rattle.gregorian.specs.Steps.Floor.{floors}
