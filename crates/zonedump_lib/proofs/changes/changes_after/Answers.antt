use Rattle.zonedump_lib.proofs.CitedWords.{IfOk-weaker, YieldsList-from_first, arith, changes_left, items_from_collect, refl, to_z-of_z}
use Rattle.zonedump_lib.proofs.changes.changes_after.Goals as goal

pub returns : goal.returns
returns c =
    let all = changes_left c.changes.result in
    let items = items_from_collect c.collect.result c.collect.ensures.ran (YieldsList-from_first (λ x. x) changes_left all refl) in
    grind (arith, to_z-of_z, IfOk-weaker)
