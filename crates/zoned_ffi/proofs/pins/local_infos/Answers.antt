use Rattle.zoned_ffi.{proofs.Words.{refl}, specs.WrittenSpans.{IsLocalInfo}}
use Rattle.zoned_ffi.proofs.pins.local_infos.Goals as goal

pub returns-clause-never : goal.returns-clause-never
returns-clause-never c z local change a b skips before at = IsLocalInfo.never change skips refl before at

pub returns-clause-several : goal.returns-clause-several
returns-clause-several c z local s t a b shown first last = IsLocalInfo.several s t shown refl first last

pub returns-clause-once : goal.returns-clause-once
returns-clause-once c z local t a shown at = IsLocalInfo.once t shown refl at refl
