use Rattle.zoneq_lib.proofs.CitedWords.{arith}
use Rattle.zoneq_lib.proofs.answer.set_zone.Goals as goal

pub returns-in_ok-writeln-in-Ok : goal.returns-in_ok-writeln-in-Ok
returns-in_ok-writeln-in-Ok c = rw c.in-Ok.is (grind arith)

pub returns-in-Err : goal.returns-in-Err
returns-in-Err c = rw c.in-Err.is (grind arith)
