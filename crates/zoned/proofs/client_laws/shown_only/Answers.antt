use Rattle.zoned.proofs.{Words.{Instant, map_of, reading, zoned}, Shown.{all_seconds, none_shown, some_shown}}
use Rattle.zoned.proofs.client_laws.shown_only.Goals as goal

pub returns-clause-some : goal.returns-clause-some
returns-clause-some g c =
    let law = g.Tz.TimeZone.law c.args.zone.now in let l = reading c.args.local.now in
    some_shown {T = Instant _ _ _ _} (λ d. zoned d) law.off l.s c.args.instants.now (all_seconds law l (map_of (λ d. zoned d) c.args.instants.now) c.requires)

pub returns-clause-none : goal.returns-clause-none
returns-clause-none g c =
    let law = g.Tz.TimeZone.law c.args.zone.now in let l = reading c.args.local.now in
    none_shown {T = Instant _ _ _ _} (λ d. zoned d) law.off l.s c.args.instants.now (all_seconds law l (map_of (λ d. zoned d) c.args.instants.now) c.requires)
