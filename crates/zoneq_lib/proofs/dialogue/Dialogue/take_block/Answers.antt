use Rattle.zoneq_lib.proofs.Stopping.{block_not_sent}
use Rattle.zoneq_lib.proofs.dialogue.Dialogue.take_block.Goals as goal

pub returns-clause-err : goal.returns-clause-err
returns-clause-err g c =
    let answered = c.answer_lines-answered.ensures in
    block_not_sent _ _ _ _ _ _ _ _ _ _ _ _ c.send.ensures.result c.send.ensures.bytes answered.ok answered.err
