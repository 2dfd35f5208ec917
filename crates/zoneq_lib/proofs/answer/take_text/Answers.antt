use Rattle.zoneq_lib.proofs.{CitedWords.{on_ok_weaker}, Covering.{text_answered}}
use Rattle.zoneq_lib.proofs.answer.take_text.Goals as goal

pub returns : goal.returns
returns c =
    let read = c.from_posix_tz.ensures in
    on_ok_weaker c.set_zone.result (λ set. (_, set.1, text_answered _ _ _ _ _ read.found read.fault read.memory set.2)) c.set_zone.ensures
