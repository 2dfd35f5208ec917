use Rattle.zoned_ffi.proofs.{SetBack.{fold, only_fold}, Words.{inr}}
use Rattle.zoned_ffi.proofs.pins.folds.Goals as goal

pub returns-clause-fold : goal.returns-clause-fold
returns-clause-fold c = fold

pub returns-clause-only : goal.returns-clause-only
returns-clause-only c = only_fold

pub returns-clause-repeats : goal.returns-clause-repeats
returns-clause-repeats c = fold

pub returns-clause-either : goal.returns-clause-either
returns-clause-either c = inr fold
