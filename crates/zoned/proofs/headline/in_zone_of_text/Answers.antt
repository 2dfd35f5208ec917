use Rattle.tz_info.proofs.PosixLaws.{fault_or_zone, one_posix_fault, one_zone}
use Rattle.zoned.proofs.Answered.{answered, refused, of_text_fault}
use Rattle.zoned.proofs.headline.in_zone_of_text.Goals as goal

pub returns-in-Ok : goal.returns-in-Ok
returns-in-Ok c =
    let text = c.args.text.now in
    answered _ _ _ _ (one_zone text) (one_posix_fault text) (λ z e a f. fault_or_zone text e z f a) _ _ c.in-Ok.ensures.found c.asked_zone.ensures

pub returns-in-Err : goal.returns-in-Err
returns-in-Err c =
    let text = c.args.text.now in
    refused _ _ _ _ (one_zone text) (one_posix_fault text) (λ z e a f. fault_or_zone text e z f a) _
    (of_text_fault text _ c.in-Err.ensures.fault c.in-Err.ensures.memory)
