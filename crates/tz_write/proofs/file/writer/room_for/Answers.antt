use Rattle.tz_write.proofs.{LaidNames.none_laid, Words.arith}
use Rattle.tz_write.proofs.file.writer.room_for.Goals as goal

pub returns-in_default : goal.returns-in_default
returns-in_default c = λ f. let none = none_laid c.local_time_types.result.now f.designations in let names = f.names in grind arith
