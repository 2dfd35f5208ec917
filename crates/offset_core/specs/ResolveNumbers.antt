-- The numbers of refusals.
use Rattle.std.specs.Prelude.{ℕ}
use Rattle.offset_core.specs.declared.resolve_error.ResolveError.{ResolveError, TheVariants.{Gap, Fold, OutOfRange}}

-- the number of an error of a choice
abbrev pub resolve_error_number : ResolveError → ℕ
resolve_error_number Gap = 21
resolve_error_number Fold = 22
resolve_error_number OutOfRange = 23
