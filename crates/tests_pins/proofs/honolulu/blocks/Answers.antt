use Rattle.tests_pins.proofs.HonoluluFile.{first_block, second_block}
use Rattle.tests_pins.proofs.honolulu.blocks.Goals as goal

pub returns : goal.returns
returns c = record { first = first_block; second = second_block }
