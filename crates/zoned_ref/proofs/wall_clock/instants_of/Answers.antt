use Rattle.zoned_ref.proofs.{Words.{in_seconds, option_map, reading, seconds_of, zoned}, Instants.{of_one}}
use Rattle.zoned_ref.proofs.wall_clock.instants_of.Goals as goal

pub returns-in-Some : goal.returns-in-Some
returns-in-Some c =
    rw c.in-Single.is (rw c.in-Some.is
    at (of_one (reading c.args.local.now) c.in-Single.only (option_map (λ d. in_seconds seconds_of (zoned d)) c.instant_of.result) c.instant_of.ensures))

pub returns-in-None-instant_of : goal.returns-in-None-instant_of
returns-in-None-instant_of c =
    rw c.in-Single.is (rw c.in-None-instant_of.is
    at (of_one (reading c.args.local.now) c.in-Single.only (option_map (λ d. in_seconds seconds_of (zoned d)) c.instant_of.result) c.instant_of.ensures))
