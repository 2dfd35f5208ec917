use Rattle.zoneq_lib.proofs.CitedWords.{arith, codes, on_ok_weaker, to_z-of_z}
use Rattle.zoneq_lib.proofs.answer.tell_instant.Goals as goal

pub returns-in_default : goal.returns-in_default
returns-in_default c = rw c.in_default.is (grind arith)

pub returns-in_default-new : goal.returns-in_default-new
returns-in_default-new c =
    rw c.in-Some.is (on_ok_weaker c.writeln-in_default-new.result (λ bytes. (codes "wide zone", bytes, grind arith)) c.writeln-in_default-new.ensures.bytes)

pub returns-in-Single : goal.returns-in-Single
returns-in-Single c = grind (arith, to_z-of_z)

pub returns-in_default-timestamp_opt : goal.returns-in_default-timestamp_opt
returns-in_default-timestamp_opt c =
    let fits = c.ranges.seconds in
    let given = simp to_z-of_z at c.timestamp_opt.ensures in let other = c.in_default-timestamp_opt.not-Single in
    rw c.in-Some.is (on_ok_weaker c.writeln-in_default-timestamp_opt.result (λ bytes. (codes "out of range", bytes, grind arith))
    c.writeln-in_default-timestamp_opt.ensures.bytes)
