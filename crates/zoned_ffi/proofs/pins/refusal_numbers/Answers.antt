use Rattle.offset_core.specs.ResolveNumbers.{resolve_error_number}
use Rattle.zoned_ffi.proofs.{Words.{ap, ◌∙◌}, Resolving.{fold_is, gap_is, none_is}}
use Rattle.zoned_ffi.proofs.pins.refusal_numbers.Goals as goal

pub returns-clause-none_taken : goal.returns-clause-none_taken
returns-clause-none_taken c = none_is

pub returns-clause-gap : goal.returns-clause-gap
returns-clause-gap c z local n none = none.2 ∙ ap resolve_error_number (gap_is none.1.around none.0 none.1.taken)

pub returns-clause-fold : goal.returns-clause-fold
returns-clause-fold c z local n none = none.2 ∙ ap resolve_error_number (fold_is none.1.around none.0 none.1.taken)
