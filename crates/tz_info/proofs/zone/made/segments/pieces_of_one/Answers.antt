use Rattle.tz_info.proofs.{Fits.fits, WallSegments.{first_pieces, inner_pieces, last_pieces}, Words.{SFits, add-one, arith, refl, rules, w64}}
use Rattle.tz_info.proofs.zone.made.segments.pieces_of_one.Goals as goal

pub returns-then-place-eq0 : goal.returns-then-place-eq0
returns-then-place-eq0 c =
    let fc = c.cut_of.type_inv in
    let fo : SFits w64 c.segment_at-segment.result.offset = search rules in
    let zero = c.if-place-eq0.true in
    rw (c.in_ok-pieces.ensures.items, simp fits at c.in_ok-end.ensures, simp fits at c.cut_of.ensures, zero)
    (first_pieces c.requires.table (omega arith) (rw zero at c.segment_at-segment.ensures) refl c.requires.some)

pub returns-then-place-entries : goal.returns-then-place-entries
returns-then-place-entries c =
    let fc = c.cut_of-2.type_inv in
    let fo : SFits w64 c.segment_at-segment.result.offset = search rules in
    rw (c.in_ok-pieces-2.ensures.items, simp fits at c.in_ok-start.ensures, simp fits at c.cut_of-2.ensures, add-one)
    (last_pieces c.requires.table (omega arith) c.segment_at-segment.ensures (omega arith) c.if-place-entries.true)

pub returns : goal.returns
returns c =
    let fc = c.cut_of-2.type_inv in
    let fe = c.cut_of-3.type_inv in
    let fo : SFits w64 c.segment_at-segment.result.offset = search rules in
    rw (
      c.in_ok-pieces-3.ensures.items,
      simp fits at c.in_ok-start.ensures,
      simp fits at c.in_ok-end-2.ensures,
      simp fits at c.cut_of-2.ensures,
      simp fits at c.cut_of-3.ensures,
      add-one,
    )
    (inner_pieces c.requires.table (omega arith) c.segment_at-segment.ensures (omega arith) (omega arith))
