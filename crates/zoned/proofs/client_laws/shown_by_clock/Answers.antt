use Rattle.zoned_time.proofs.Relocals.{shown_by}
use Rattle.zoned.proofs.{Words.{Instant, map_of, reading, relocal_shown, wall_of, zoned, ◌≡◌}, Shown.{each_seen}}
use Rattle.zoned.proofs.client_laws.shown_by_clock.Goals as goal

pub returns : goal.returns
returns g c =
    let law = g.Tz.TimeZone.law c.args.zone.now in let l = reading c.args.local.now in
    let answer = map_of (λ d. zoned d) c.args.instants.now in
    each_seen {T = Instant _ _ _ _} (λ d. zoned d) _ (λ d. wall_of d ≡ l) c.args.instants.now (λ d h. h.0)
    (shown_by g.met.Tz.TimeZone.told law l answer (relocal_shown law l answer c.requires))
