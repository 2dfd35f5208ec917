use Rattle.tz_info.proofs.{Fits.fits, RulePieces.joined, Words.{SFits, arith, linear, refl, rules, w64}}
use Rattle.tz_info.proofs.rule.alternate.AlternateTime.joined_before.Goals as goal

pub returns-clause-one : goal.returns-clause-one
returns-clause-one c =
    let ff : SFits w64 c.args.piece.from = search rules in let fe : SFits w64 c.args.piece.until = search rules in
    let found = simp fits at c.in-Some.ensures in
    let fb : SFits w64 c.in-Some.before.from = search rules in
    simp fits (joined c.args.self.now c.in-Some.before c.args.piece _ found.0 c.requires (grind arith) refl refl refl (omega linear))
