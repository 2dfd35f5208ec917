use Rattle.std.proofs.Common.{FitsSigned, arith, rules, to_z-of_z, w64}
use Rattle.demo_examples.proofs.{Waiting.{all, at_place, more_none, more_some}, scheduler.queue.Queue.first.Goals.{in-None, in-Some}}
use Rattle.demo_examples.proofs.scheduler.queue.Queue.first.Goals as goal

pub loop-job-preserved : goal.loop-job-preserved
loop-job-preserved c =
    let jobs = c.args.self.now.queued.items in let q = c.index.result.now in
    let there = at_place jobs c.loop-job.job q (search rules) c.index.ensures in elim c.match-index.branch [
      | in-Some w ↦
          let fits : FitsSigned w64 w.timestamp.result = search rules in
          rw w.first-is (more_some jobs c.loop-job.job q w.timestamp.result c.loop-job.first w.sooner-first.result there (search rules)
          (simp to_z-of_z at w.sooner-first.ensures) c.loop-job.invariant)
      | in-None w ↦ rw w.first-is (more_none jobs c.loop-job.job q c.loop-job.first there (search rules) c.loop-job.invariant)
    ]

pub returns : goal.returns
returns c = all c.args.self.now.queued.items c.loop-job.job c.loop-job.first (omega arith) c.loop-job.invariant
