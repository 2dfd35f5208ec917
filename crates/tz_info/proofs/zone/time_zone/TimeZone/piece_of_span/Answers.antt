use Rattle.tz_info.proofs.{Fits.{fits}, Words.{arith, inl, ints, linear, pos, ◌<ℤ◌}}
use Rattle.tz_info.proofs.zone.time_zone.TimeZone.piece_of_span.Goals as goal

pub returns-in-Err-clause-at : goal.returns-in-Err-clause-at
returns-in-Err-clause-at c =
    let fu = c.ranges.unix_time in
    inl (simp fits at c.in-Err.ensures).0

pub returns-in-Ok : goal.returns-in-Ok
returns-in-Ok c =
    let fu = c.ranges.unix_time in
    let u = c.args.unix_time in
    let below : u <ℤ pos 9_223_372_036_854_775_807 = grind (linear, fits) in
    let ff = c.start_by.type_inv in
    let fe = c.end_by.type_inv in
    let at = simp fits at c.in-Ok.ensures in
    simp fits (record {
      each = λ u low high.
          let since = (c.start_by.ensures u).0 low in
          let until = (c.end_by.ensures u).0 high in
          at.span.each u (record { fits = omega (arith, ints); since = since.1; until = until.1 });
      at = ((c.start_by.ensures u).1 (omega (arith, ints), at.inside.since), (c.end_by.ensures u).1 (below, at.inside.until));
    })
