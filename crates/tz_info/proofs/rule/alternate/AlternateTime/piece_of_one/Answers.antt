use Rattle.tz_info.proofs.{Fits.fits, RulePieces.of_one, Words.{linear}}
use Rattle.tz_info.proofs.rule.alternate.AlternateTime.piece_of_one.Goals as goal

pub returns-clause-one : goal.returns-clause-one
returns-clause-one c =
    let fu = c.ranges.second in
    simp fits (of_one c.args.self.now _ (omega linear) (simp fits at c.is_dst_in.ensures))
