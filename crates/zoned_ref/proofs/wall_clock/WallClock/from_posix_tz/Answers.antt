use Rattle.zoned_ref.proofs.wall_clock.WallClock.from_posix_tz.Goals as goal

pub returns-in-Ok-clause-only : goal.returns-in-Ok-clause-only
returns-in-Ok-clause-only c z of_text =
    rw (← c.in-Ok.ensures.only z of_text) c.in_zone.ensures.told
