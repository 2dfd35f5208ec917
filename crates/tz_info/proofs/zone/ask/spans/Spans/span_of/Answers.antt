use Rattle.tz_info.proofs.{Fits.fits, Words.{SFits, ap, linear, w64}, ZoneLaws.type_not_refused}
use Rattle.tz_info.proofs.zone.ask.spans.Spans.span_of.Goals as goal

pub returns-in_default-clause-found : goal.returns-in_default-clause-found
returns-in_default-clause-found c = λ s at.
    let fs = c.ranges.second in
    let fit : SFits w64 c.args.second = omega linear in
    type_not_refused _ _ s.local_time_type at.in_force_then (rw (ap (λ p. p.zone) c.self.view_is) at (simp fits at c.in_default.ensures)).0

pub returns-clause-found : goal.returns-clause-found
returns-clause-found c =
    let fs = c.ranges.second in
    let fit : SFits w64 c.args.second = omega linear in grind (linear, fits)
