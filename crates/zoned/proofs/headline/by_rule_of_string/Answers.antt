use Rattle.std.proofs.Common.{inl}
use Rattle.tz_info.proofs.PosixLaws.{one_fault, one_rule, refused_or_spelled}
use Rattle.zoned.proofs.Answered.{answered, refused}
use Rattle.zoned.proofs.headline.by_rule_of_string.Goals as goal

pub returns-in-Ok : goal.returns-in-Ok
returns-in-Ok c =
    let bytes = c.args.string.now in let extended = c.args.extended in
    answered _ _ _ _ (one_rule extended bytes) (one_fault extended bytes) (λ r e a f. refused_or_spelled extended bytes e r f a) _ _
    c.in-Ok.ensures.found c.asked_rule.ensures

pub returns-in-Err : goal.returns-in-Err
returns-in-Err c =
    let bytes = c.args.string.now in let extended = c.args.extended in
    refused _ _ _ _ (one_rule extended bytes) (one_fault extended bytes) (λ r e a f. refused_or_spelled extended bytes e r f a) _ (inl c.in-Err.ensures.fault)
