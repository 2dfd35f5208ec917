-- Pieces of a rule: stretches of seconds at which it says one type.
use Rattle.std.specs.Prelude.{ℤ, ◌≤ℤ◌, ◌<ℤ◌}
use Rattle.tz_info.specs.{
  Moments.{AlternateAt, type_when},
  Rules.{Alternate},
  declared.rule.piece.RulePiece.{RulePiece},
}

-- the second u lies in the piece
abbrev pub IsInPiece : RulePiece → ℤ → Type 0
IsInPiece p u = (p.from ≤ℤ u) × (u <ℤ p.until)

-- at each second of the piece the rule says the piece's type
pub record HasOneAnswer (a : Alternate) (p : RulePiece) : Type 0 where
  pub each : (u : ℤ) → IsInPiece p u → AlternateAt a u (type_when a p.is_dst)
