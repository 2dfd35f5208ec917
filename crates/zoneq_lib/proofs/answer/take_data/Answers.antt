use Rattle.zoneq_lib.proofs.{CitedWords.{arith, inl, on_ok_weaker}, ScanLaws.{decoded}}
use Rattle.zoneq_lib.proofs.answer.take_data.Goals as goal

pub returns-in-Ok : goal.returns-in-Ok
returns-in-Ok c =
    on_ok_weaker c.take_file.result
    (λ read. (_, read.1, inl (rw (c.as_slice.ensures.value, decoded c.args.digits.now _ c.in-Ok.ensures.ok) at read.2))) c.take_file.ensures

pub returns-in-Err : goal.returns-in-Err
returns-in-Err c = on_ok_weaker c.set_zone.result (λ set. (_, set.1, grind arith)) c.set_zone.ensures
