use Rattle.std.proofs.Common.{List, length, refl, slice_index_or, subst, ◌<◌, ◌≡◌}
use Rattle.demo_examples.specs.declared.scheduler.queued.Queued.{Queued}
use Rattle.demo_examples.proofs.Waiting.{at_place}
use Rattle.demo_examples.proofs.scheduler.queue.Queue.job.Goals as goal

pub returns-clause-some : goal.returns-clause-some
returns-clause-some c =
    let q = c.in_ok-queued.queued.now in let found = c.in_ok-queued.ensures.lookup in let place = c.args.fire.now.job in
    let within = subst (λ (xs : List Queued). place < length xs) c.deref.ensures.value found.3.0 in
    let is = subst (λ (xs : List Queued). q ≡ slice_index_or xs place q) c.deref.ensures.value found.1 in
    (q, at_place c.args.self.now.queued.items place q within is, refl)
