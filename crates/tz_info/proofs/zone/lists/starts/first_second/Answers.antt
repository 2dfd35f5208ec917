use Rattle.tz_info.proofs.{
  Fits.fits,
  LeapStarts.{reached_first, reached_later, since_epoch},
  Prefixes.any_leap,
  Words.{SFits, arith, get_or, linear, rules, w128, w64, ◌-ℤ◌, ◌-◌},
}
use Rattle.tz_info.proofs.zone.lists.starts.first_second.Goals as goal

pub returns-then-come-eq0-clause-reached : goal.returns-then-come-eq0-clause-reached
returns-then-come-eq0-clause-reached c = λ u y l. let r = reached_first _ c.args.leap_time u y c.requires in grind (linear, fits)

pub returns : goal.returns
returns c =
    let fx = c.ranges.leap_time in
    let f1 = c.correction_after.type_inv in
    let f2 = c.correction_after-2.type_inv in
    let fl = c.later_second.type_inv in
    let t = (get_or c.args.leaps.now (c.entries_come-come.result - 1) any_leap).unix_leap_time in
    let ft : SFits w64 t = search rules in
    let fw : SFits w128 c.args.leap_time = omega arith in
    let h1 : SFits w128 c.correction_after.result = omega arith in
    let h2 : SFits w128 c.correction_after-2.result = omega arith in
    let g1 : SFits w128 t = omega arith in
    let g2 : SFits w128 (t -ℤ c.correction_after.result) = omega linear in
    let g3 : SFits w128 (c.args.leap_time -ℤ c.correction_after-2.result) = omega linear in
    let come = simp fits at c.entries_come-come.ensures in
    let is = simp fits at c.later_second.ensures in
    let late = since_epoch _ (c.entries_come-come.result - 1) any_leap c.requires (omega arith) in
    let least = ((is c.later_second.result).0 (omega linear)).0 in
    simp fits (record {
      reached = λ u y l.
          let a = rw (← c.correction_after.ensures, ← c.correction_after-2.ensures) at (reached_later _ any_leap c.requires _ u y _ come (omega arith) l) in
          let b = is u in (λ h. b.1 (a.0 h), λ h. a.1 (b.0 h));
      bound = omega linear;
    })
