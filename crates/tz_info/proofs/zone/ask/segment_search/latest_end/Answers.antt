use Rattle.tz_info.proofs.{SegmentEndLaws.reached_plain, Words.{SFits, arith, rules, to_z-of_z, w64}}
use Rattle.tz_info.proofs.zone.ask.segment_search.latest_end.Goals as goal

pub returns-in-None-clause-end : goal.returns-in-None-clause-end
returns-in-None-clause-end c = λ local fits.
    let fe : SFits w64 c.end_at.result = search rules in
    simp to_z-of_z
    (rw c.end_at.ensures.end
    (reached_plain _ _ _ local (c.requires.ends.0 (rw c.in-None.is at c.latest_end.ensures.end)) (omega arith) c.requires.place))
