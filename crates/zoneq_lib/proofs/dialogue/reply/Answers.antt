use Rattle.zoneq_lib.proofs.{CitedWords.{◌∙◌}, Stopping.{reply_stops}}
use Rattle.zoneq_lib.proofs.dialogue.reply.Goals as goal

pub returns-in-Ok-clause-err : goal.returns-in-Ok-clause-err
returns-in-Ok-clause-err g c =
    let (answer, is, answers) = c.in-Ok.ensures in
    reply_stops _ _ _ _ _ _ _ _ c.write_all.result answers (c.as_bytes.ensures.value ∙ is) c.write_all.ensures.err
