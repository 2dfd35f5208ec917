use Rattle.zoned_round.proofs.ForCallers.{gone-in}
use Rattle.zoned.proofs.Words.{Instant, IsIn, IsMoved, stays, zoned}
use Rattle.zoned.proofs.client_laws.in_zone_after_rounding.Goals as goal

pub returns : goal.returns
returns g c = let d = c.args.before.now in let law = g.Tz.TimeZone.law c.args.zone.now in
    gone-in {T = Instant _ _ _ _} (λ e. IsIn law e) (λ way e. IsMoved g.Tz.TimeZone.meaning d way e) d c.args.after.now _ c.requires.before
    (λ way e is. stays law (zoned d).utc.s (zoned e).utc.s (zoned d).offset (zoned e).offset e.in_range c.requires.before is.offset) c.requires.after.1.2
