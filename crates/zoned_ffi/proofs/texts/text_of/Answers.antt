use Rattle.zoned_ffi.proofs.{Words.{arith, IsSaidOf}, Sayings.{says}}
use Rattle.zoned_ffi.proofs.texts.text_of.Goals as goal

pub returns-in-15 : goal.returns-in-15
returns-in-15 c = says c.args.number 15 _ c.in-15.is IsSaidOf.Text_ends

pub returns-in-47 : goal.returns-in-47
returns-in-47 c = grind (arith, says, IsSaidOf.Unknown_step)
