use Rattle.tz_write.proofs.{FileWritten.ArePushed, Words.{IsType, take, type_bytes}}
use Rattle.tz_write.proofs.file.types.push_types.Given as goal

abbrev pub invariant-loop-local : goal.invariant-loop-local
invariant-loop-local l = ArePushed (type_bytes l.designations) IsType l.initial.bytes.items l.bytes.items (take l.local-index l.types)
