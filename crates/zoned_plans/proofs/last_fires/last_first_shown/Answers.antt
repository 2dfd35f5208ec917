use Rattle.zoned_plans.proofs.Words.{IsFirstShown, IsPastUntil, SFits, arith, numbers, pos, refl, rules, sym, to_z-of_z, w64, ◌-ℤ◌, ◌∙◌}
use Rattle.zoned_plans.proofs.LastShown.{below_range, last_first_shown, not_shown_last}
use Rattle.zoned_plans.proofs.last_fires.last_first_shown.Goals.{Else-is_at_planned}
use Rattle.zoned_plans.proofs.last_fires.last_first_shown.Goals as goal

pub returns-then-is_at_planned : goal.returns-then-is_at_planned
returns-then-is_at_planned g c =
    let own = sym (g.met.Tz.TimeZone.told c.in_ok-fire.fire.offset) ∙ c.in_ok-fire.ensures.at.offset.there in
    last_first_shown c.fires.invariant c.args.until.now.in_range c.in_ok-fire.fire.in_range c.in_ok-fire.ensures
    (rw own at (c.if-is_at_planned.ensures.0 refl))

-- if clocks show no local time of the plan at its last fire, that comes before this fire
past : (g : _) (c : Else-is_at_planned g) → IsPastUntil (IsFirstShown (g.Tz.TimeZone.law c.args.zone.now).off (g.P.Plan.planned c.args.plan.now))
    c.args.until.now.datetime.secs (c.in_ok-fire.fire.datetime.secs -ℤ pos 1)
past g c =
    let own = sym (g.met.Tz.TimeZone.told c.in_ok-fire.fire.offset) ∙ c.in_ok-fire.ensures.at.offset.there in
    not_shown_last c.fires.invariant c.in_ok-fire.ensures
    (λ has. let yes = c.if-is_at_planned.ensures.1 (rw (← own) at has) in grind arith)

pub returns-in_err-from : goal.returns-in_err-from
returns-in_err-from g c =
    let before = past g (goal.at.returns-in_err-from g c).Else-is_at_planned in search (rules, to_z-of_z, below_range)

pub fires-preserved : goal.fires-preserved
fires-preserved g c =
    let before = past g (goal.at.fires-preserved g c).Else-is_at_planned in search (rules, to_z-of_z)

pub fires-smaller : goal.fires-smaller
fires-smaller g c =
    let fits : SFits w64 c.timestamp.result = search rules in let is = c.timestamp.ensures in
    let there = simp to_z-of_z at c.in_ok-from.ensures in let until = c.in_ok-fire.ensures.last.not_after in
    omega (numbers, is, there, until)
