use Rattle.tz_info.proofs.{Fits.fits, RulePieces.joined, Words.{SFits, linear, refl, rules, w64}}
use Rattle.tz_info.proofs.rule.alternate.AlternateTime.joined_after.Goals as goal

pub returns-clause-one : goal.returns-clause-one
returns-clause-one c =
    let ff : SFits w64 c.args.piece.from = search rules in let fe : SFits w64 c.args.piece.until = search rules in
    let found = simp fits at c.in-Some.ensures in
    let fa : SFits w64 c.in-Some.after.until = search rules in
    simp fits (joined c.args.self.now c.args.piece c.in-Some.after _ c.requires found.0 refl (grind linear) refl refl (omega linear))
