use Rattle.zoned_ffi.proofs.local_lookups.Held.around.Goals as goal

pub returns-in-None : goal.returns-in-None
returns-in-None c = c.none.ensures c.args.zone.now
