use Rattle.tz_info.proofs.{Fits.fits, SpanLaws.{last_spans, span_between}, Words.{None, SFits, linear, rules, w32, w64}}
use Rattle.tz_info.proofs.zone.time_zone.TimeZone.find_last_span.Goals as goal

pub returns : goal.returns
returns c =
    let greatest : SFits w32 c.self.inside.extremes.greatest = search rules in
    let start = c.start_by.type_inv in
    let after : SFits w64 c.second_before-after.result = search rules in
    let local_after = c.cut_at.type_inv in
    let offset = c.from.type_inv in
    let is_offset = simp fits at c.from.ensures in
    let last : SFits w64 c.last_typed-last.result = search rules in
    let typed = c.last_typed-last.ensures in
    let span = span_between _ _ _ _ None _ _ (rw (← c.self.view_is) c.self.invariant.valid) (rw (← c.self.view_is) c.self.invariant.limits) last
    (simp fits at c.in-Ok.ensures) (simp fits at c.previous_held_change-begin.ensures) (λ d is later. typed.none d.at is.fits later (_, is.after))
    c.span_begin-from.ensures ((simp fits at c.second_after.ensures) _ typed) in
    simp fits (last_spans _ _ c.self.inside.extremes (rw (← c.self.view_is) c.self.invariant.extremes) (search rules) greatest after last
    typed span
    (λ u is later. ((c.start_by.ensures u).0 ((simp fits at (c.second_before-after.ensures u (omega linear))).0 later)).1)
    (rw is_offset at (simp fits at c.cut_at.ensures)) (rw c.change_copied.ensures (simp fits at c.previous_held_change-begin.ensures)))
