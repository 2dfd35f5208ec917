use Rattle.zoned_ffi.proofs.column.kept.found_at.Goals as goal

pub returns-in-ToLocal : goal.returns-in-ToLocal
returns-in-ToLocal c = rw c.in-ToLocal.is c.instants_in-kept.ensures

pub returns-in-ToInstants : goal.returns-in-ToInstants
returns-in-ToInstants c = rw c.in-ToInstants.is c.local_times_in-kept.ensures
