use Rattle.zoned_plans.proofs.Words.{IsOffsetStretch, IsPastUntil, IsShownFire, IsWithinDay, IsZoneSecond, SFits, numbers, rules, subst, to_z-of_z, w32, w64}
use Rattle.zoned_plans.proofs.Words.{zoned}
use Rattle.zoned_plans.proofs.LastShown.{below_range, none_left_until, quiet_past_until, shown_found_last, stretch_past_until}
use Rattle.zoned_plans.proofs.last_fires.last_shown.Goals.{After-offset_stretch_at-stretch}
use Rattle.zoned_plans.proofs.last_fires.last_shown.Goals as goal

-- the stretch of the second from which on no clock shows a local time of the plan
stretch : (g : _) (c : After-offset_stretch_at-stretch g) → IsOffsetStretch (g.Tz.TimeZone.law c.args.zone.now).off
    c.in_ok-last.last.datetime.secs c.offset_stretch_at-stretch.result.from c.offset_stretch_at-stretch.result.until
    c.offset_stretch_at-stretch.result.offset
stretch g c = grind numbers

-- none comes after that second
past : (g : _) (c : After-offset_stretch_at-stretch g) → IsPastUntil (IsShownFire (g.Tz.TimeZone.law c.args.zone.now).off (g.P.Plan.planned c.args.plan.now))
    c.args.until.now.datetime.secs c.in_ok-last.last.datetime.secs
past g c = quiet_past_until (g.met.Tz.TimeZone.within_day c.args.zone.now) c.stretches.invariant c.in_ok-last.ensures

pub returns-in_err-last : goal.returns-in_err-last
returns-in_err-last g c =
    rw c.from_residual.ensures (none_left_until (g.met.Tz.TimeZone.within_day c.args.zone.now) c.stretches.invariant c.in_err-last.ensures)

pub last_planned_in-requires : goal.last_planned_in-requires
last_planned_in-requires g c =
    let fits : SFits w32 c.offset_stretch_at-stretch.result.offset = search rules in
    let s = stretch g (goal.at.last_planned_in-requires g c).After-offset_stretch_at-stretch in
    let inside : IsZoneSecond c.in_ok-last.last.datetime.secs = (omega numbers, omega numbers) in
    simp to_z-of_z (subst IsWithinDay (s.same _ inside s.not_before s.before) (g.met.Tz.TimeZone.within_day c.args.zone.now _ inside))

pub returns-in-Some : goal.returns-in-Some
returns-in-Some g c =
    let fo : SFits w32 c.offset_stretch_at-stretch.result.offset = search rules in let fu : SFits w64 c.offset_stretch_at-stretch.result.from = search rules in
    let ff : SFits w64 c.in-Some.found = search rules in let begin = (goal.at.returns-in-Some g c).After-offset_stretch_at-stretch in
    shown_found_last _ _ (λ d. zoned d) c.instant_at.result (g.met.Tz.TimeZone.within_day c.args.zone.now) c.args.until.now.in_range
    (past g begin) (stretch g begin) (simp to_z-of_z at c.in-Some.ensures) (simp to_z-of_z at c.instant_at.ensures)

pub returns-in_err-from : goal.returns-in_err-from
returns-in_err-from g c =
    let fo : SFits w32 c.offset_stretch_at-stretch.result.offset = search rules in let fu : SFits w64 c.offset_stretch_at-stretch.result.from = search rules in
    let begin = (goal.at.returns-in_err-from g c).After-offset_stretch_at-stretch in
    rw c.from_residual-in_err-from.ensures (below_range c.args.until.now.in_range (stretch_past_until (g.met.Tz.TimeZone.within_day c.args.zone.now)
    (past g begin) (stretch g begin) (simp to_z-of_z at c.in_default.ensures)) (simp to_z-of_z at c.in_err-from.ensures))

pub stretches-preserved : goal.stretches-preserved
stretches-preserved g c =
    let fo : SFits w32 c.offset_stretch_at-stretch.result.offset = search rules in let fu : SFits w64 c.offset_stretch_at-stretch.result.from = search rules in
    let begin = (goal.at.stretches-preserved g c).After-offset_stretch_at-stretch in
    rw (simp to_z-of_z at c.in_ok-from.ensures).1 (stretch_past_until (g.met.Tz.TimeZone.within_day c.args.zone.now) (past g begin) (stretch g begin)
    (simp to_z-of_z at c.in_default.ensures))

pub stretches-smaller : goal.stretches-smaller
stretches-smaller g c =
    let fu : SFits w64 c.offset_stretch_at-stretch.result.from = search rules in
    let s = stretch g (goal.at.stretches-smaller g c).After-offset_stretch_at-stretch in let low = s.not_before in
    let is = simp to_z-of_z at c.in_ok-from.ensures in let until = c.in_ok-last.ensures.until in let range = c.in_ok-from.from.in_range in
    omega (numbers, is.1, until, range, low)
