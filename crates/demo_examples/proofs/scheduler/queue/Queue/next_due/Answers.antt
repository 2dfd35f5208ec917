use Rattle.std.proofs.Common.{List, length, rules, slice_index_or, subst, ◌<◌, ◌≡◌}
use Rattle.demo_examples.specs.declared.scheduler.queued.Queued.{Queued}
use Rattle.demo_examples.proofs.Waiting.{at_place, first_run}
use Rattle.demo_examples.proofs.scheduler.queue.Queue.next_due.Goals as goal

pub returns : goal.returns
returns c =
    let jobs = c.args.self.now.queued.items in let q = c.in_ok-get.field-0.now in
    let found = c.in_ok-get.ensures.lookup in let place = c.in_ok-job.job in
    let within = subst (λ (xs : List Queued). place < length xs) c.deref.ensures.value found.3.0 in
    let is = subst (λ (xs : List Queued). q ≡ slice_index_or xs place q) c.deref.ensures.value found.1 in
    first_run jobs (record { at = c.in_ok-at.at; job = place }) c.in_ok-job.field-0-1 q c.in_ok-job.ensures (at_place jobs place q within is) (search rules)
