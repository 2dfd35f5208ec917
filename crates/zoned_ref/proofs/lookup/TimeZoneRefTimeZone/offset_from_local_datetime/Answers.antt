use Rattle.offset_core.specs.declared.local_result.LocalResult.TheVariants.{Ambiguous, Single}
use Rattle.zoned_ref.proofs.Walls.{offsets_given}
use Rattle.zoned_ref.proofs.lookup.TimeZoneRefTimeZone.offset_from_local_datetime.Goals as goal

pub returns-in-Single-clause-offsets : goal.returns-in-Single-clause-offsets
returns-in-Single-clause-offsets c =
    offsets_given c.args.self.now _ (Single c.new.result) (rw c.zone.ensures.zone at c.zone.ensures.offsets) c.args.local.now.in_range.0 c.new.ensures.zone
    (rw (c.new.ensures.local_type, ← c.zone.ensures.zone) c.in-Single.ensures)

pub returns-in-Ambiguous-clause-offsets : goal.returns-in-Ambiguous-clause-offsets
returns-in-Ambiguous-clause-offsets c = let first = c.new-in-Ambiguous in let last = c.new-in-Ambiguous-2 in
    offsets_given c.args.self.now _ (Ambiguous first.result last.result) (rw c.zone.ensures.zone at c.zone.ensures.offsets) c.args.local.now.in_range.0
    (first.ensures.zone, last.ensures.zone) (rw (first.ensures.local_type, last.ensures.local_type, ← c.zone.ensures.zone) c.in-Ambiguous.ensures)
