use Rattle.zoned.proofs.Words.{reading, resolved_once, zoned}
use Rattle.zoned.proofs.client_laws.resolved_alike.Goals as goal

pub returns : goal.returns
returns g c = let r = c.requires in let zone = g.Tz.TimeZone.law c.args.zone.now in
    resolved_once g.met.Tz.TimeZone.told zone (reading c.args.local.now) c.args.choice (zoned c.args.first.now) (zoned c.args.second.now) r.first r.second
