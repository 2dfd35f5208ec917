use Rattle.std.proofs.Common.{refl, rules}
use Rattle.demo_examples.proofs.scheduler.queue.Queue.add.Goals as goal

pub returns : goal.returns
returns c = record { its = c.new.result; same = c.new.ensures.0; from = rw c.new.ensures.1 refl; last = search rules }
