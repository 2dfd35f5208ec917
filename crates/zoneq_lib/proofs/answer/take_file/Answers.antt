use Rattle.zoneq_lib.proofs.{CitedWords.{on_ok_weaker}, Covering.{file_answered}}
use Rattle.zoneq_lib.proofs.answer.take_file.Goals as goal

pub returns : goal.returns
returns c =
    let read = c.from_tz_data.ensures in
    on_ok_weaker c.set_zone.result (λ set. (_, set.1, file_answered _ _ _ _ _ read.found read.fault set.2)) c.set_zone.ensures
