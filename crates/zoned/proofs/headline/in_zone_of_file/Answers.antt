use Rattle.tz_info.proofs.TzFileLaws.{fault_once, fault_or_zone, one_zone}
use Rattle.zoned.proofs.Answered.{answered, refused, of_file_fault}
use Rattle.zoned.proofs.headline.in_zone_of_file.Goals as goal

pub returns-in-Ok : goal.returns-in-Ok
returns-in-Ok c =
    let bytes = c.args.bytes.now in
    answered _ _ _ _ (λ y z a b. one_zone bytes y z a.0 b.0) (fault_once bytes) (λ z e a f. fault_or_zone bytes e z f a.0 a.1) _ _
    c.in-Ok.ensures.found c.asked_zone.ensures

pub returns-in-Err : goal.returns-in-Err
returns-in-Err c =
    let bytes = c.args.bytes.now in
    refused _ _ _ _ (λ y z a b. one_zone bytes y z a.0 b.0) (fault_once bytes) (λ z e a f. fault_or_zone bytes e z f a.0 a.1) _
    (of_file_fault bytes _ c.in-Err.ensures.fault)
