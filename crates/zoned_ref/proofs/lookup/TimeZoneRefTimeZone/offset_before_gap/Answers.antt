use Rattle.zoned_ref.proofs.{Words.{law_of}, Gaps.{before_within, gap_given, no_gap}}
use Rattle.zoned_ref.proofs.lookup.TimeZoneRefTimeZone.offset_before_gap.Goals as goal

pub new-requires : goal.new-requires
new-requires c = before_within _ _ _ c.zone.ensures.narrow c.in-Gap.ensures

pub returns-in-Gap-clause-offset : goal.returns-in-Gap-clause-offset
returns-in-Gap-clause-offset c =
    gap_given c.args.self.now _ c.new.result (rw c.zone.ensures.zone at c.zone.ensures.offsets) c.args.local.now.in_range.0 c.new.ensures.zone
    (rw (c.new.ensures.local_type, ← c.zone.ensures.zone) c.in-Gap.ensures)

pub returns-in-Single-clause-offset : goal.returns-in-Single-clause-offset
returns-in-Single-clause-offset c = let once = c.in-Single.ensures in
    no_gap (law_of c.args.self.now) _ _ c.zone.ensures.narrow c.zone.ensures.offsets c.args.local.now.in_range.0 (once.second, _, once.shown)

pub returns-in-Ambiguous-clause-offset : goal.returns-in-Ambiguous-clause-offset
returns-in-Ambiguous-clause-offset c = let twice = c.in-Ambiguous.ensures in
    no_gap (law_of c.args.self.now) _ _ c.zone.ensures.narrow c.zone.ensures.offsets c.args.local.now.in_range.0 (twice.first, _, twice.at_first)
