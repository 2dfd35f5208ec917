use Rattle.tz_file.proofs.{FilePieceLaws.{last_bytes, next_bytes}, Words.{arith, length-append}}
use Rattle.tz_file.proofs.parts.from_parts.Goals as goal

pub returns : goal.returns
returns c = grind (arith, last_bytes, length-append, next_bytes)
