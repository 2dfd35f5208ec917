use Rattle.std.proofs.{Common.{arith, refl}, lemmas.{Int.{ints}, Option.{slice_get_within}}}
use Rattle.demo_examples.proofs.{Waiting.{none_due, taken}, scheduler.queue.Queue.take_due.Goals.{in-None, in-Some}}
use Rattle.demo_examples.proofs.scheduler.queue.Queue.take_due.Goals as goal

pub returns-then-timestamp : goal.returns-then-timestamp
returns-then-timestamp c =
    let fire = c.in_ok-fire.fire in
    (none_due c.args.self.now.queued.items c.args.now.now.datetime.secs fire.at.datetime.secs fire.job c.in_ok-fire.ensures.first (grind (arith, ints)), refl)

pub returns : goal.returns
returns c =
    let jobs = c.args.self.now.queued.items in let fire = c.in_ok-fire.fire in let runs = c.in_ok-fire.ensures in elim c.match-get_mut.branch [
      | in-Some w ↦
          rw w.self-is (taken jobs c.args.now.now.datetime.secs fire w.run.new.self w.in-Some.queued.now runs (grind (arith, ints))
          w.in-Some.ensures.item.1 w.run.ensures.job w.run.ensures.last)
      | in-None w ↦
          let within = slice_get_within jobs fire.job runs.first.its runs.first.listed in let past = w.in-None.ensures.item.3 in
          absurd (omega (arith, within, past))
    ]
