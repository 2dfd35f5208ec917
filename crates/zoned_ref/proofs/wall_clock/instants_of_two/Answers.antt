use Rattle.zoned_ref.proofs.{Words.{in_seconds, option_map, reading, seconds_of, zoned}, Instants.{of_two}}
use Rattle.zoned_ref.proofs.wall_clock.instants_of_two.Goals as goal

pub returns-in-Some-other : goal.returns-in-Some-other
returns-in-Some-other c =
    rw (c.in-Some.is, c.in-Some-other.is)
    at (of_two (reading c.args.local.now) c.args.first.now c.args.last.now (option_map (λ d. in_seconds seconds_of (zoned d)) c.instant_of-one.result)
    (option_map (λ d. in_seconds seconds_of (zoned d)) c.instant_of-other.result) c.instant_of-one.ensures c.instant_of-other.ensures)

pub returns-in-None-other : goal.returns-in-None-other
returns-in-None-other c =
    rw (c.in-Some.is, c.in-None-other.is)
    at (of_two (reading c.args.local.now) c.args.first.now c.args.last.now (option_map (λ d. in_seconds seconds_of (zoned d)) c.instant_of-one.result)
    (option_map (λ d. in_seconds seconds_of (zoned d)) c.instant_of-other.result) c.instant_of-one.ensures c.instant_of-other.ensures)

pub returns-in-None : goal.returns-in-None
returns-in-None c =
    rw c.in-None.is at (of_two (reading c.args.local.now) c.args.first.now c.args.last.now
    (option_map (λ d. in_seconds seconds_of (zoned d)) c.instant_of-one.result)
    (option_map (λ d. in_seconds seconds_of (zoned d)) c.instant_of-other.result) c.instant_of-one.ensures c.instant_of-other.ensures)
