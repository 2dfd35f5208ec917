use Rattle.zoned_ffi.proofs.local_lookups.LocalLookups.new.Goals as goal

pub invariant_of-result : goal.invariant_of-result
invariant_of-result c = c.none-2.ensures c.args.zone.now
