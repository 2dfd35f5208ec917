use Rattle.tz_info.proofs.TzFileLaws.{one_zone}
use Rattle.tests_pins.proofs.HonoluluFile.{file}
use Rattle.tests_pins.proofs.honolulu.file.Goals as goal

pub returns-clause-spells : goal.returns-clause-spells
returns-clause-spells c = file

pub returns-clause-only : goal.returns-clause-only
returns-clause-only c = λ z other. one_zone _ z _ other file
