use Rattle.tz_info.proofs.{Fits.fits, RunLaws.{next_run, one_type}, Words.{SFits, rules, w64}}
use Rattle.tz_info.proofs.zone.time_zone.TimeZone.next_run.Goals as goal

pub returns : goal.returns
returns c =
    let fl : SFits w64 c.args.left.low = search rules in let fh : SFits w64 c.args.left.high = search rules in
    let fs = c.start_by.type_inv in let fe = c.end_by.type_inv in
    let fu = c.end.type_inv in
    let starts = simp fits at c.start_by.ensures in let ends = simp fits at c.end_by.ensures in
    let here = rw c.end.ensures at (simp fits at c.near_span_at-span.ensures.inside) in
    record {
      run = simp fits (next_run _ _ _ _ _ _ c.requires.some here starts ends);
      one_type = simp fits (one_type _ _ _ _ _ _
          c.requires.low c.requires.high c.near_span_at-span.ensures.span starts ends);
    }
