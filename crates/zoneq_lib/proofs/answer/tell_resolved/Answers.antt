use Rattle.zoneq_lib.proofs.{CitedWords.{arith, codes, inr, law_of, on_ok_weaker, refl}, Covering.{resolved_instant}}
use Rattle.zoneq_lib.proofs.answer.tell_resolved.Goals as goal

pub returns-in_default : goal.returns-in_default
returns-in_default c = rw c.in_default.is (grind arith)

pub returns-in_default-new : goal.returns-in_default-new
returns-in_default-new c =
    rw c.in-Some.is (on_ok_weaker c.writeln-in_default-new.result (λ bytes. (codes "wide zone", bytes, grind arith)) c.writeln-in_default-new.ensures.bytes)

pub returns-in-Ok : goal.returns-in-Ok
returns-in-Ok c =
    let of_zone = c.in-Some-new.ensures in
    rw c.in-Some.is (on_ok_weaker c.write_instant.result
    (λ bytes. (_, bytes, resolved_instant c.in-Some.zone (law_of c.in-Some-new.narrow) _ _ _ (of_zone.some.0 refl) of_zone.offsets c.in-Ok.ensures))
    c.write_instant.ensures)

pub returns-in-Err : goal.returns-in-Err
returns-in-Err c =
    let of_zone = c.in-Some-new.ensures in
    rw c.in-Some.is (on_ok_weaker c.writeln-in-Err.result
    (λ bytes. (_, grind arith, inr (of_zone.some.0 refl, _, of_zone.offsets, inr (_, c.in-Err.ensures, refl)))) c.writeln-in-Err.ensures.bytes)
