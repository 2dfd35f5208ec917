use Rattle.tz_info.proofs.Fits.{fits}
use Rattle.tz_info.proofs.rule.alternate.AlternateTime.piece_of_season.Goals as goal

pub returns-then-decides : goal.returns-then-decides
returns-then-decides c =
    let fu = c.ranges.second in
    (c.piece_at.ensures.one c.args.self.now c.season-season.ensures, simp fits at c.piece_at.ensures.inside)
