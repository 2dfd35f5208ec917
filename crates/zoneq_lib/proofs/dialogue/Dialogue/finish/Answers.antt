use Rattle.zoneq_lib.proofs.Stopping.{last_not_sent}
use Rattle.zoneq_lib.proofs.dialogue.Dialogue.finish.Goals as goal

pub returns-clause-err : goal.returns-clause-err
returns-clause-err g c =
    last_not_sent _ _ _ _ _ _ _ _ _ c.send.ensures.result c.send.ensures.bytes c.answer_last-answered.ensures.ok c.answer_last-answered.ensures.err
