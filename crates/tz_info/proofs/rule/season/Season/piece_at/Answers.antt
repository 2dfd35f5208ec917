use Rattle.tz_info.proofs.{Fits.fits, RulePieces.{by_season, same_years}, Words.{SFits, refl, rules, w64, ◌∙◌}}
use Rattle.tz_info.proofs.rule.season.Season.piece_at.Goals as goal

pub returns-clause-one : goal.returns-clause-one
returns-clause-one c = λ a season.
    let fu = c.ranges.second in
    let ff : SFits w64 c.args.self.from = search rules in let fe : SFits w64 c.args.self.until = search rules in
    let fs : SFits w64 c.args.self.turns.start = search rules in let ft : SFits w64 c.args.self.turns.end = search rules in
    by_season a c.args.self c.cut_at-3.result c.args.second season
    (c.cut_at-3.ensures.kept ∙ c.cut_at-2.ensures.kept ∙ c.cut_at-answered.ensures.kept ∙ c.cut_at.ensures.kept ∙ (simp fits at c.is_dst.ensures))
    (λ u inside.
    let ended = ((simp fits at c.cut_at-3.ensures.side) u).0 inside in
    let started = ((simp fits at c.cut_at-2.ensures.side) u).0 ended.0 in
    let most = ((simp fits at c.cut_at-answered.ensures.side) u).0 started.0 in
    let least = ((simp fits at c.cut_at.ensures.side) u).0 most.0 in
    (same_years u c.args.second c.requires.time least.1 most.1, least.0.0, least.0.1, started.1, ended.1))

pub returns-clause-inside : goal.returns-clause-inside
returns-clause-inside c =
    let s = c.args.second in
    let fu = c.ranges.second in
    let ff : SFits w64 c.args.self.from = search rules in let fe : SFits w64 c.args.self.until = search rules in
    ((simp fits at c.cut_at-3.ensures.side) s).1 (
      ((simp fits at c.cut_at-2.ensures.side) s).1 (
        ((simp fits at c.cut_at-answered.ensures.side) s).1
            (((simp fits at c.cut_at.ensures.side) s).1 (c.requires.decided, refl), refl),
        refl,
      ),
      refl,
    )
