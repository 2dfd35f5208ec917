use Rattle.zoned_plans.proofs.{ShownFires.{first_shown, not_shown}, Words.{arith, refl, rules, sym, ◌∙◌, ◌≡◌}}
use Rattle.zoned_plans.proofs.policies.next_first_shown.Goals as goal

pub returns-then-shows_planned : goal.returns-then-shows_planned
returns-then-shows_planned g c =
    let own = sym (g.met.Tz.TimeZone.told c.in_ok-fire.fire.offset) ∙ c.in_ok-fire.ensures.at.offset.there in
    first_shown c.fires.invariant c.args.after.now.in_range c.in_ok-fire.fire.in_range c.in_ok-fire.ensures (rw own at (c.if-shows_planned.ensures.0 refl))

pub fires-preserved : goal.fires-preserved
fires-preserved g c =
    let own = sym (g.met.Tz.TimeZone.told c.in_ok-fire.fire.offset) ∙ c.in_ok-fire.ensures.at.offset.there in
    let same : c.to_utc-from.result.datetime.secs ≡ c.in_ok-fire.fire.datetime.secs = search rules in
    rw same (not_shown c.fires.invariant c.in_ok-fire.ensures
    (λ has. let yes = c.if-shows_planned.ensures.1 (rw (← own) at has) in grind arith))
