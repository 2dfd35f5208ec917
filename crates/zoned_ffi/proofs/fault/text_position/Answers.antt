use Rattle.zoned_ffi.{proofs.{Words.{arith}, FaultLaws.{text_place}}, specs.FaultPlaces.IsFaultPosition.{Not_utf8}}
use Rattle.zoned_ffi.proofs.fault.text_position.Goals as goal

pub returns-in-Err : goal.returns-in-Err
returns-in-Err c = grind (arith, Not_utf8)

pub returns-in-Ok : goal.returns-in-Ok
returns-in-Ok c = grind (arith, text_place)
