use Rattle.zoneq_lib.proofs.CitedWords.{arith, codes, on_ok_weaker}
use Rattle.zoneq_lib.proofs.answer.answer.Goals as goal

pub returns-in-None : goal.returns-in-None
returns-in-None c = on_ok_weaker c.writeln.result (λ bytes. (codes "bad line", rw c.clear.ensures.bytes at bytes, grind arith)) c.writeln.ensures.bytes
