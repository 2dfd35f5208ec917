use Rattle.tz_info.proofs.Fits.{fits}
use Rattle.tz_info.proofs.rule.alternate.AlternateTime.piece_at.Goals as goal

pub joined_before-requires : goal.joined_before-requires
joined_before-requires c = c.piece_at-piece.ensures.one c.args.self.now c.season-season.ensures

pub joined_after-requires : goal.joined_after-requires
joined_after-requires c = c.piece_at-piece.ensures.one c.args.self.now c.season-season.ensures

pub returns-then-piece-season : goal.returns-then-piece-season
returns-then-piece-season c =
    let fu = c.ranges.second in
    (c.joined_before.ensures.one, c.joined_before.ensures.wider c.args.second (simp fits at c.piece_at-piece.ensures.inside))

pub returns-then-piece-season-2 : goal.returns-then-piece-season-2
returns-then-piece-season-2 c =
    let fu = c.ranges.second in
    (c.joined_after.ensures.one, c.joined_after.ensures.wider c.args.second (simp fits at c.piece_at-piece.ensures.inside))

pub returns-else-piece-season-2 : goal.returns-else-piece-season-2
returns-else-piece-season-2 c =
    let fu = c.ranges.second in
    (c.piece_at-piece.ensures.one c.args.self.now c.season-season.ensures, (simp fits at c.piece_at-piece.ensures.inside))
