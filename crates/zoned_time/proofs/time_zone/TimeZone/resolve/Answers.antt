use Rattle.offset_core.specs.declared.around.Taken.TheVariants.{InGap}
use Rattle.zoned_time.proofs.{Words.{Ok, ap, reading, shown, sym, ◌∙◌}, Choices.{shown_resolved, taken_resolved}}
use Rattle.zoned_time.proofs.time_zone.TimeZone.resolve.Goals as goal

pub returns-in-Ok-Shown : goal.returns-in-Ok-Shown
returns-in-Ok-Shown g c =
    let law = g.Self.TimeZone.law c.args.self.now in let given = c.offsets_around in let taken = c.in-Ok-Shown in
    shown_resolved law (reading c.args.local.now) c.args.choice given.result given.ensures (λ d. shown d.datetime d.offset) taken.offset
    c.instant_by.result (sym c.take.ensures ∙ taken.is ∙ ap Ok taken.field-0-is)
    (rw (← g.met.Self.TimeZone.told taken.offset) at c.instant_by.ensures)

pub returns-in-Ok-InGap : goal.returns-in-Ok-InGap
returns-in-Ok-InGap g c =
    let law = g.Self.TimeZone.law c.args.self.now in let given = c.offsets_around in let taken = c.in-Ok-InGap in
    taken_resolved law (reading c.args.local.now) c.args.choice given.result given.ensures (λ d. shown d.datetime d.offset) (InGap taken.before)
    c.shifted.result (sym c.take.ensures ∙ taken.is ∙ ap Ok taken.field-0-is) (rw (← g.met.Self.TimeZone.told taken.before) at c.shifted.ensures)
