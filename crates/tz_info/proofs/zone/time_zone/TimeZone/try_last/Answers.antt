use Rattle.tz_info.proofs.{Fits.fits, WalkLaws.tried_segment, Words.{ap, arith, inr, length, linear, refl, suc, sym, table_count, ◌∙◌, ◌≡◌}}
use Rattle.tz_info.proofs.zone.time_zone.TimeZone.try_last.Goals as goal

pub returns-in-None-clause-found : goal.returns-in-None-clause-found
returns-in-None-clause-found c =
    let z = c.args.self.now in
    let table : table_count z ≡ suc (length z.transitions) = rw (ap (λ z. z.rule) (sym c.self.view_is) ∙ c.in-None.is) refl in
    tried_segment _ _ _ (rw (← c.self.view_is) c.self.invariant.valid) (omega arith) (omega arith)
    c.requires.begin (inr (refl, refl)) (grind (linear, fits)) c.requires.seen
