use Rattle.zoned_plans.proofs.Words.{IsOffsetStretch, IsPast, IsShownFire, IsWithinDay, IsZoneSecond, SFits, numbers, pos, rules, subst, to_z-of_z, w32, w64}
use Rattle.zoned_plans.proofs.Words.{zoned, ◌+ℤ◌, ◌-ℤ◌}
use Rattle.zoned_plans.proofs.ShownFires.{all_quiet_after, beyond_range, quiet_past, shown_found, stretch_past}
use Rattle.zoned_plans.proofs.policies.next_shown.Goals.{After-offset_stretch_at-stretch}
use Rattle.zoned_plans.proofs.policies.next_shown.Goals as goal

-- the stretch of the second after the quiet ones
stretch : (g : _) (c : After-offset_stretch_at-stretch g) → IsOffsetStretch (g.Tz.TimeZone.law c.args.zone.now).off
    (c.in_ok-quiet.quiet.datetime.secs +ℤ pos 1) c.offset_stretch_at-stretch.result.from c.offset_stretch_at-stretch.result.until
    c.offset_stretch_at-stretch.result.offset
stretch g c = grind numbers

-- none comes up to the quiet second
past : (g : _) (c : After-offset_stretch_at-stretch g) → IsPast (IsShownFire (g.Tz.TimeZone.law c.args.zone.now).off (g.P.Plan.planned c.args.plan.now))
    c.args.after.now.datetime.secs c.in_ok-quiet.quiet.datetime.secs
past g c = quiet_past (g.met.Tz.TimeZone.within_day c.args.zone.now) c.stretches.invariant c.in_ok-quiet.ensures

pub returns-in_err-quiet : goal.returns-in_err-quiet
returns-in_err-quiet g c =
    rw c.from_residual.ensures (all_quiet_after (g.met.Tz.TimeZone.within_day c.args.zone.now) c.stretches.invariant c.in_err-quiet.ensures)

pub first_planned_in-requires : goal.first_planned_in-requires
first_planned_in-requires g c =
    let fits : SFits w32 c.offset_stretch_at-stretch.result.offset = search rules in
    let s = stretch g (goal.at.first_planned_in-requires g c).After-offset_stretch_at-stretch in
    let inside : IsZoneSecond (c.in_ok-quiet.quiet.datetime.secs +ℤ pos 1) = (omega numbers, omega numbers) in
    simp to_z-of_z (subst IsWithinDay (s.same _ inside s.not_before s.before) (g.met.Tz.TimeZone.within_day c.args.zone.now _ inside))

pub returns-in-Some : goal.returns-in-Some
returns-in-Some g c =
    let fo : SFits w32 c.offset_stretch_at-stretch.result.offset = search rules in let fu : SFits w64 c.offset_stretch_at-stretch.result.until = search rules in
    let ff : SFits w64 c.in-Some.found = search rules in let begin = (goal.at.returns-in-Some g c).After-offset_stretch_at-stretch in
    shown_found _ _ (λ d. zoned d) c.instant_at.result (g.met.Tz.TimeZone.within_day c.args.zone.now) c.args.after.now.in_range
    (past g begin) (stretch g begin) (simp to_z-of_z at c.in-Some.ensures) (simp to_z-of_z at c.instant_at.ensures)

pub returns-in_err-from : goal.returns-in_err-from
returns-in_err-from g c =
    let fo : SFits w32 c.offset_stretch_at-stretch.result.offset = search rules in let fu : SFits w64 c.offset_stretch_at-stretch.result.until = search rules in
    let begin = (goal.at.returns-in_err-from g c).After-offset_stretch_at-stretch in let s = stretch g begin in
    let fd : SFits w64 (c.offset_stretch_at-stretch.result.until -ℤ pos 1) = omega numbers in
    rw c.from_residual-in_err-from.ensures (beyond_range c.args.after.now.in_range (stretch_past (g.met.Tz.TimeZone.within_day c.args.zone.now)
    (past g begin) s (simp to_z-of_z at c.in_default.ensures)) (simp to_z-of_z at c.in_err-from.ensures))

pub stretches-preserved : goal.stretches-preserved
stretches-preserved g c =
    let fo : SFits w32 c.offset_stretch_at-stretch.result.offset = search rules in let fu : SFits w64 c.offset_stretch_at-stretch.result.until = search rules in
    let begin = (goal.at.stretches-preserved g c).After-offset_stretch_at-stretch in let s = stretch g begin in
    let fd : SFits w64 (c.offset_stretch_at-stretch.result.until -ℤ pos 1) = omega numbers in
    rw (simp to_z-of_z at c.in_ok-from.ensures).1 (stretch_past (g.met.Tz.TimeZone.within_day c.args.zone.now) (past g begin) s
    (simp to_z-of_z at c.in_default.ensures))

pub stretches-smaller : goal.stretches-smaller
stretches-smaller g c =
    let fu : SFits w64 c.offset_stretch_at-stretch.result.until = search rules in
    let s = stretch g (goal.at.stretches-smaller g c).After-offset_stretch_at-stretch in let before = s.before in let range = c.in_ok-quiet.quiet.in_range in
    let fd : SFits w64 (c.offset_stretch_at-stretch.result.until -ℤ pos 1) = omega (numbers, before, range, fu) in
    let is = simp to_z-of_z at c.in_ok-from.ensures in let later = c.in_ok-quiet.ensures.from in let high = c.in_ok-from.from.in_range in
    omega (numbers, is.1, later, high, before)
