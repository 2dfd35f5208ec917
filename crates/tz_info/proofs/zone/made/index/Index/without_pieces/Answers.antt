use Rattle.tz_info.proofs.{Fits.fits, TableLaws.{no_segments, one_segment}, Words.{arith, linear}}
use Rattle.tz_info.proofs.zone.made.index.Index.without_pieces.Goals as goal

pub returns : goal.returns
returns c =
    let fs = c.rule_from.type_inv in
    let from = c.rule_from.ensures in
    elim c.if-segment_count-eq0.branch [
      | goal.then-segment_count-eq0 w ↦ rw (w.before-is, c.none.ensures, c.new.ensures.items) (grind (linear, fits, no_segments))
      | goal.else-segment_count-eq0 w ↦ rw (w.before-is, c.none.ensures, c.new.ensures.items) (simp fits
          (one_segment _ _ _ c.requires.none from.begun (grind arith) _ c.requires.valid c.requires.list (omega arith)
          (rw c.items.ensures at c.segment_at-segment.ensures)))
    ]
