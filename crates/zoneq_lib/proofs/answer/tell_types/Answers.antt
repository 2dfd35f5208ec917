use Rattle.zoneq_lib.proofs.CitedWords.{arith}
use Rattle.zoneq_lib.proofs.answer.tell_types.Goals as goal

pub returns-in_default : goal.returns-in_default
returns-in_default c = rw c.in_default.is (grind arith)
