use Rattle.tz_info.proofs.{Fits.fits, SeasonLaws.gap_by_season, Words.IsSeasonIn}
use Rattle.tz_info.proofs.zone.time_zone.TimeZone.gap_after_table.Goals as goal

pub returns-clause-gap : goal.returns-clause-gap
returns-clause-gap c =
    let fl = c.ranges.local in
    let reach = c.requires.reach in
    let season : IsSeasonIn c.args.self.now c.args.local c.in-Some-season.season = rw c.in-Some-season.is at c.requires.season in
    gap_by_season _ _ _ reach.0 reach.1 _ _
    (rw (← c.self.view_is) c.self.invariant.valid) c.in-Some.ensures season c.requires.never reach.2 c.requires.less
    (λ from. simp fits at (c.gap_in.ensures from))
