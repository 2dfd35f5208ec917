use Rattle.zoned_plans.proofs.{ShownFires.{fire_first, only_fire, only_shown, pass_first}, Words.{rules, to_z-of_z, zoned}}
use Rattle.zoned_plans.proofs.policies.next_of_both.Goals as goal

pub returns-in_default : goal.returns-in_default
returns-in_default g c =
    only_shown _ _ (λ d. zoned d) c.next_shown-shown.result c.args.after.now.in_range (λ d. d.in_range) c.in_default.ensures c.next_shown-shown.ensures

pub returns-in_default-shown : goal.returns-in_default-shown
returns-in_default-shown g c = search (rules, only_fire)

pub returns-then-timestamp : goal.returns-then-timestamp
returns-then-timestamp g c = search (rules, to_z-of_z, pass_first)

pub returns-else-timestamp : goal.returns-else-timestamp
returns-else-timestamp g c =
    fire_first c.args.after.now.in_range c.in-Some.fire.in_range c.in-Some.ensures c.in-Some-shown.ensures (search (rules, to_z-of_z))
