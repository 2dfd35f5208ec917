use Rattle.offset_core.specs.declared.{around.Taken.TheVariants.{InGap}, resolve_error.ResolveError.TheVariants.{Gap}}
use Rattle.std.proofs.Common.{Err, Ok, refl}
use Rattle.zoned_time.specs.Choice.{refused}
use Rattle.tests_pins.proofs.{Words.{IsTaken, arith, ints, pos, refuse, set_forward}, SetClocks.{takes_gap}}
use Rattle.tests_pins.specs.Choices.{shift}
use Rattle.tests_pins.proofs.choices.gaps.Goals as goal

is_taken : IsTaken set_forward (pos 1_800) shift (pos 0)
is_taken = record { taken = InGap (pos 0); takes = takes_gap shift (Ok (InGap (pos 0))) refl; offset = refl }

pub returns-clause-is_shifted : goal.returns-clause-is_shifted
returns-clause-is_shifted c = is_taken

pub returns-clause-is_why : goal.returns-clause-is_why
returns-clause-is_why c = refused (takes_gap refuse (Err Gap) refl)

pub returns-clause-is_instant : goal.returns-clause-is_instant
returns-clause-is_instant c = record { offset = pos 0; taken = is_taken; in_range = (omega arith, omega arith); at = grind (arith, ints) }
