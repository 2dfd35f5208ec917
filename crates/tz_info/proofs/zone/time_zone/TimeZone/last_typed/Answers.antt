use Rattle.std.proofs.lemmas.Int.{clamps}
use Rattle.tz_info.proofs.{Fits.fits, TypedLaws.{last_with_turns, last_without_turns}, Words.{IsValid, SFits, linear, rules, w128, w64}}
use Rattle.tz_info.proofs.zone.time_zone.TimeZone.last_typed.Goals as goal

pub returns-in-Some : goal.returns-in-Some
returns-in-Some c =
    let fl : SFits w64 c.last_timed-last.result = search rules in
    let fb : SFits w128 c.rule_begin.result = search rules in
    let fm : SFits w128 c.max.result = search rules in
    let end = simp fits at c.max.ensures.value in
    let fr : SFits w64 c.up_to.result = search rules in
    let least = simp fits at c.up_to.ensures in
    let valid : IsValid c.args.self.now = rw (← c.self.view_is) c.self.invariant.valid in
    simp fits (last_with_turns _ valid (rw (← c.self.view_is) c.self.invariant.limits) _ c.last_timed-last.ensures _ _ c.up_to.result
    c.in-Some.ensures c.rule_begin.ensures.begin (omega (linear, clamps)))

pub returns-in-None : goal.returns-in-None
returns-in-None c =
    let fl = c.last_timed-last.type_inv in
    simp fits (last_without_turns _ (rw (← c.self.view_is) c.self.invariant.valid) (rw (← c.self.view_is) c.self.invariant.limits) _
    c.last_timed-last.ensures c.in-None.ensures)
