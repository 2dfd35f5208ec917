use Rattle.zoneq_lib.proofs.CitedWords.{arith, inr, on_ok_weaker, refl, to_z-of_z, type_error_number}
use Rattle.zoneq_lib.proofs.answer.tell_type.Goals as goal

pub returns-in_default : goal.returns-in_default
returns-in_default c = rw c.in_default.is (grind arith)

pub returns-in-Err : goal.returns-in-Err
returns-in-Err c =
    let fits = c.ranges.seconds in let refused = simp to_z-of_z at c.in-Err.ensures in
    let two = type_error_number c.in-Some.zone c.args.seconds refused.0 in
    rw c.in-Some.is (on_ok_weaker c.writeln-in-Err.result (λ bytes. (_, grind arith, inr (refused.0, refl))) c.writeln-in-Err.ensures.bytes)
