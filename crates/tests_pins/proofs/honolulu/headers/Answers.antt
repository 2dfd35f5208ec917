use Rattle.tz_file.specs.declared.header.{Place.TheVariants.{First, Second}, Version.TheVariants.{Two}}
use Rattle.tests_pins.proofs.HonoluluFile.{is_header, version_2}
use Rattle.tests_pins.proofs.honolulu.headers.Goals as goal

pub returns : goal.returns
returns c = record { first = λ rest. is_header First 50 Two rest (version_2 First); second = λ rest. is_header Second 50 Two rest (version_2 Second) }
