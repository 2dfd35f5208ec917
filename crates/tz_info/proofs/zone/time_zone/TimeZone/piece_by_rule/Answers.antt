use Rattle.tz_info.proofs.{Fits.{fits}, RuleChanges.rule_second, RulePieces.same_since, Words.{SFits, arith, ints, linear, refl, rules, w128, w64}, ZoneChanges.{begins, from_rule}}
use Rattle.tz_info.proofs.zone.time_zone.TimeZone.piece_by_rule.Goals as goal

pub returns-clause-each : goal.returns-clause-each
returns-clause-each c =
    let fu = c.ranges.unix_time in
    let fw : SFits w128 c.rule_begin-begin.result = search rules in
    let low : SFits w64 c.cut_at-piece.result.from = search rules in let high : SFits w64 c.cut_at-piece.result.until = search rules in
    let begun : SFits w64 c.rule_begin-begin.result = omega (arith, ints) in
    let side = simp fits at c.cut_at-piece.ensures.side in
    let found = c.in_ok-piece_at.ensures in
    simp fits (λ u from until.
    let inside = (side u).0 (from, until) in
    let there = found.0.each u inside.0 in
    let valid = c.rule_begin-begin.ensures.valid in
    rw (c.type_when.ensures, c.cut_at-piece.ensures.kept) (from_rule c.args.self.now c.args.turns.now u _ c.requires valid
    (begins c.args.self.now _ u valid c.rule_begin-begin.ensures.begin (rule_second _ u _ there) (same_since _ u c.args.unix_time inside.1 (omega (arith, ints)))) there))

pub returns-clause-at : goal.returns-clause-at
returns-clause-at c =
    let fu = c.ranges.unix_time in
    let fw : SFits w128 c.rule_begin-begin.result = search rules in
    let begun : SFits w64 c.rule_begin-begin.result = omega (arith, ints) in
    let low : SFits w64 c.cut_at-piece.result.from = search rules in let high : SFits w64 c.cut_at-piece.result.until = search rules in
    let found = simp fits at c.in_ok-piece_at.ensures in
    simp fits (((simp fits at c.cut_at-piece.ensures.side) c.args.unix_time).1 (found.1, refl))
