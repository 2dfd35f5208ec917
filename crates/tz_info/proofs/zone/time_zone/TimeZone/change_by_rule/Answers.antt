use Rattle.tz_info.proofs.{Words.{SFits, arith, ints, rules, to_z-of_z, w128, w64}, ZoneChanges.{none_begun, rule_found, steady}}
use Rattle.tz_info.proofs.zone.time_zone.TimeZone.change_by_rule.Goals as goal

pub returns-in_err-turns : goal.returns-in_err-turns
returns-in_err-turns c = rw c.from_residual.ensures (steady _ _ (rw
    (← c.self.view_is) c.self.invariant.valid) c.in_err-turns.ensures)

pub returns-then-begin : goal.returns-then-begin
returns-then-begin c = none_begun _ _ _ (grind arith) c.rule_begin-begin.ensures.begin (λ u fits ahead. omega (arith, ints))

pub returns : goal.returns
returns c =
    let fs = c.ranges.second in
    let fw : SFits w128 c.rule_begin-begin.result = search rules in
    let fb : SFits w64 c.rule_begin-begin.result = omega (arith, ints) in
    rule_found _ _ _ _ _
    _ (rw
    (← c.self.view_is) c.self.invariant.valid)
    c.in_ok-turns.ensures c.rule_begin-begin.ensures.begin (simp to_z-of_z at c.nearest_change.ensures.nearest)
