use Rattle.tz_info.proofs.{EntryChanges.{inside_between, stretch_between}, Fits.{fits}, Words.{SFits, rules, w64}}
use Rattle.tz_info.proofs.zone.time_zone.TimeZone.piece_at.Goals as goal

pub returns-in-Some : goal.returns-in-Some
returns-in-Some c =
    let fu = c.ranges.unix_time in
    let table = c.change_table-changes.ensures in
    let low : SFits w64 c.in-Some.between.from = search rules in
    let high : SFits w64 c.in-Some.between.until = search rules in
    let h = simp fits at c.in-Some.ensures.between in
    simp fits (record {
      each = λ v from until. stretch_between _ _ _ v _ _ table.valid table.list h low high c.listed.ensures from until;
      at = inside_between _ _ _ _ table.list h fu;
    })
