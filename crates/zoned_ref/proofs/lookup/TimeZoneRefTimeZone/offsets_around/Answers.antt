use Rattle.offset_core.specs.declared.local_result.LocalResult.TheVariants.{Ambiguous, Single}
use Rattle.zoned_ref.proofs.{Words.{arith}, Gaps.{before_within, gap_given}, Walls.{each_within, offsets_given}}
use Rattle.zoned_ref.proofs.lookup.TimeZoneRefTimeZone.offsets_around.Goals as goal

pub new-requires : goal.new-requires
new-requires c = each_within _ _ c.zone.ensures.narrow (Single c.in-Single.only.now) c.in-Single.ensures

pub new-requires-in-Ambiguous : goal.new-requires-in-Ambiguous
new-requires-in-Ambiguous c = let both = c.in-Ambiguous in
    (each_within _ _ c.zone.ensures.narrow (Ambiguous both.first.now both.last.now) both.ensures).0

pub new-requires-in-Ambiguous-2 : goal.new-requires-in-Ambiguous-2
new-requires-in-Ambiguous-2 c = let both = c.in-Ambiguous in
    (each_within _ _ c.zone.ensures.narrow (Ambiguous both.first.now both.last.now) both.ensures).1

pub new-requires-in-Gap : goal.new-requires-in-Gap
new-requires-in-Gap c = before_within _ _ _ c.zone.ensures.narrow c.in-Gap.ensures

pub returns-in-Single-clause-offsets : goal.returns-in-Single-clause-offsets
returns-in-Single-clause-offsets c =
    offsets_given c.args.self.now _ (Single c.new.result) (grind arith) c.args.local.now.in_range.0 c.new.ensures.zone
    (grind arith)

pub returns-in-Ambiguous-clause-offsets : goal.returns-in-Ambiguous-clause-offsets
returns-in-Ambiguous-clause-offsets c = let first = c.new-in-Ambiguous in let last = c.new-in-Ambiguous-2 in
    offsets_given c.args.self.now _ (Ambiguous first.result last.result) (rw c.zone.ensures.zone at c.zone.ensures.offsets) c.args.local.now.in_range.0
    (first.ensures.zone, last.ensures.zone) (rw (first.ensures.local_type, last.ensures.local_type, ← c.zone.ensures.zone) c.in-Ambiguous.ensures)

pub returns-in-Gap-clause-offsets : goal.returns-in-Gap-clause-offsets
returns-in-Gap-clause-offsets c =
    gap_given c.args.self.now _ c.new-in-Gap.result (grind arith) c.args.local.now.in_range.0 c.new-in-Gap.ensures.zone
    (grind arith)

pub returns-in-Single-clause-local_types : goal.returns-in-Single-clause-local_types
returns-in-Single-clause-local_types c = grind arith

pub returns-in-Ambiguous-clause-local_types : goal.returns-in-Ambiguous-clause-local_types
returns-in-Ambiguous-clause-local_types c = grind arith

pub returns-in-Gap-clause-local_types : goal.returns-in-Gap-clause-local_types
returns-in-Gap-clause-local_types c = grind arith
