use Rattle.tz_info.proofs.{
  Fits.{fits},
  KindLaws.{IsMargin, margin_kept},
  SeasonLaws.{own_start, season_made},
  Words.{to_z-of_z, SFits, Season, ap, arith, floors, pos, refl, sym, w64, year_of, year_start, ◌*ℤ◌, ◌+ℤ◌, ◌-ℤ◌, ◌∙◌, ◌≡◌},
  rule.alternate.AlternateTime.season.Goals.{After-first_of_year-first, After-self},
}
use Rattle.tz_info.proofs.rule.alternate.AlternateTime.season.Goals as goal

-- what was given fits, and so do the day and the first day of its year, which lies in that year
begun : (c : After-first_of_year-first) → SFits w64 c.args.unix_time × SFits w64 c.day_of-day.result × SFits w64 c.first_of_year-first.result
    × (c.first_of_year-first.result ≡ year_start (year_of c.day_of-day.result)) × (year_of c.first_of_year-first.result ≡ year_of c.day_of-day.result)
begun c = grind (arith, floors, to_z-of_z, own_start)

kept : (c : After-self) → IsMargin c.args.self.now c.self.inside.margin
kept c = rw (← c.self.view_is) (margin_kept _ _ c.self.invariant.0 c.self.invariant.3)

pub turns_from-requires : goal.turns_from-requires
turns_from-requires c = grind (arith, to_z-of_z, begun)

pub overflow_sub-result : goal.overflow_sub-result
overflow_sub-result c = let bound = (kept (goal.at.overflow_sub-result c).After-self).bound in
    omega (arith, floors)

pub overflow_add-result-2 : goal.overflow_add-result-2
overflow_add-result-2 c = let bound = (kept (goal.at.overflow_add-result-2 c).After-self).bound in
    omega (arith, floors)

pub returns : goal.returns
returns c =
    let at = goal.at.returns c in
    let (at_second, at_day, at_first, begins, own) = begun at.After-first_of_year-first in
    let k = kept at.After-self in
    let margin = c.self.inside.margin in
    let at_margin : SFits w64 margin = omega (arith, floors) in
    let at_midnight : SFits w64 (pos 86_400 *ℤ c.first_of_year-first.result) = omega (arith, floors) in
    let at_from : SFits w64 (pos 86_400 *ℤ c.first_of_year-first.result -ℤ margin) = omega (arith, floors) in
    let at_end : SFits w64 (pos 86_400 *ℤ c.first_of_year-first.result +ℤ pos 31_536_000) = omega (arith, floors) in
    let at_until : SFits w64 (pos 86_400 *ℤ c.first_of_year-first.result +ℤ pos 31_536_000 +ℤ margin) = omega (arith, floors) in
    let season : Season = record {
      from = pos 86_400 *ℤ c.first_of_year-first.result -ℤ margin;
      until = pos 86_400 *ℤ c.first_of_year-first.result +ℤ pos 31_536_000 +ℤ margin;
      turns = c.turns_from.result;
    } in
    simp fits (season_made c.args.self.now margin (year_of c.first_of_year-first.result) c.first_of_year-first.result season k
    (begins ∙ ap year_start (sym own)) refl refl (simp fits at c.turns_from.ensures.start) (simp fits at c.turns_from.ensures.end))
