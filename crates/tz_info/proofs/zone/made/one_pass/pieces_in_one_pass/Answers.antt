use Rattle.tz_info.proofs.{
  Fits.fits,
  WallPieces.{closed, crossed_by, cuts_of, ends_rise, open_first, open_more, whole},
  Words.{SFits, add-one, arith, inl, linear, rules, w64, zone_in, ◌≡◌},
}
use Rattle.tz_info.proofs.zone.made.one_pass.pieces_in_one_pass.Goals as goal

pub loop-place-init : goal.loop-place-init
loop-place-init c = record {
  pieces = rw c.in_ok-pieces.ensures.items
      (open_first (zone_in c.args.lists) c.args.entries.now c.args.count _ _ c.requires.table (grind arith) c.requires.some c.segment_at-before.ensures);
  changes = grind arith;
  room = grind arith;
}

pub loop-place-preserved : goal.loop-place-preserved
loop-place-preserved c =
    let ff : SFits w64 c.pieces_at-first.result.0.start = search rules in
    let fl : SFits w64 c.pieces_at-first.result.1.start = search rules in
    let strict = simp fits at (c.is_crossed.ensures.after c.if-is_crossed.false) in
    rw add-one (record {
      pieces = simp fits (open_more c.loop-place.invariant.pieces _ _ _ c.pieces_at-first.ensures c.segment_at-after.ensures c.args.count _ strict
          c.requires.table (omega arith) (omega arith) (grind arith));
      changes = grind arith;
      room = grind arith;
    })

pub returns-then-is_crossed : goal.returns-then-is_crossed
returns-then-is_crossed c =
    let ff : SFits w64 c.pieces_at-first.result.0.start = search rules in
    let crossed = simp fits at (c.is_crossed.ensures.crossed c.if-is_crossed.true) in
    inl (crossed_by c.loop-place.invariant.pieces _ (omega arith) crossed.0
    (cuts_of c.loop-place.invariant.pieces _ _ _ c.pieces_at-first.ensures c.segment_at-after.ensures).0 crossed.1)

pub returns-then-is_crossed-2 : goal.returns-then-is_crossed-2
returns-then-is_crossed-2 c =
    let fe = c.cut_of-end.type_inv in
    let fo : SFits w64 c.loop-place.before.offset = search rules in
    let here : c.args.count ≡ c.loop-place.place = omega (arith, c.loop-place-test.false) in
    let crossed = rw here at (simp fits at (c.is_crossed-then-count-entries.ensures.crossed c.if-is_crossed-2.true)) in
    let o = c.loop-place.invariant.pieces in
    inl (crossed_by o _ (omega arith) crossed.0
    (record { segment = _; beside = inl o.segment; is_cut = rw here at (simp fits at c.cut_of-end.ensures) }) crossed.1)

pub returns : goal.returns
returns c =
    let here : c.args.count ≡ c.loop-place.place = omega (arith, c.loop-place-test.false) in
    let inv = c.loop-place.invariant.pieces in
    let fo : SFits w64 c.loop-place.before.offset = search rules in
    elim c.if-count-entries.branch [
      | goal.then-count-entries+else-is_crossed-2 w ↦
          let fe = w.cut_of-end.type_inv in
          let last = w.if-count-entries.true in
          let cut = rw here at (simp fits at w.cut_of-end.ensures) in
          let strict = rw (here, cut) at (simp fits at (w.is_crossed-then-count-entries.ensures.after w.if-is_crossed-2.false)) in (
            rw (w.pieces-is, w.push_reserved-then-count-entries.ensures.items, simp fits at w.small-piece.ensures, cut, here, c.segment_at.ensures.index)
                (closed inv (omega arith) strict (omega arith)),
            λ k first below. ends_rise inv (omega arith) strict k first (omega arith),
            λ k _ more. c.loop-place.invariant.changes k (omega arith) more,
          )
      | goal.else-count-entries w ↦ let more = w.if-count-entries.false in
          (grind (linear, fits, whole), grind (linear, fits, whole), λ k _ more. c.loop-place.invariant.changes k (omega arith) more)
    ]
