use Rattle.zonedump_lib.proofs.{CitedWords.{pair_lines}, JsonPutting.{pushed}}
use Rattle.zonedump_lib.proofs.zdump.push_pairs.Goals as goal

pub loop-change-preserved : goal.loop-change-preserved
loop-change-preserved c =
    pushed (pair_lines c.args.name.now) c.args.changes.now c.loop-change.change-index c.change-item.result c.change-item.result _ _ _ c.loop-change-test.true
    c.change-item.is c.loop-change.invariant c.in_ok-push_pair.ensures
