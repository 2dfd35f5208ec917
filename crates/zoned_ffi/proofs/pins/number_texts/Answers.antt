use Rattle.zoned_ffi.{specs.Texts.{Not_open}, proofs.Words.{inl}}
use Rattle.zoned_ffi.proofs.pins.number_texts.Goals as goal

pub returns-clause-closed : goal.returns-clause-closed
returns-clause-closed c = inl Not_open
