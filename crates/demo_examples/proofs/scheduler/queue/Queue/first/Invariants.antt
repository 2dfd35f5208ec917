use Rattle.demo_examples.proofs.Waiting.{IsFirstAmong}
use Rattle.demo_examples.proofs.scheduler.queue.Queue.first.Given as goal

-- the first of the jobs so far
abbrev pub invariant-loop-job : goal.invariant-loop-job
invariant-loop-job l = IsFirstAmong l.self.queued.items l.job l.first
