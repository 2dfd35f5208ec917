use Rattle.offset_core.specs.declared.{resolve_error.ResolveError.TheVariants.{Fold}, around.Taken.TheVariants.{Shown}}
use Rattle.std.proofs.Common.{Err, Ok, refl}
use Rattle.zoned_time.proofs.ForCallers.{one_taken, unresolved_once}
use Rattle.zoned_time.specs.Choice.{refused}
use Rattle.tests_pins.proofs.{Words.{arith, ints, pos, refuse, set_back}, SetClocks.{taken_in, takes_fold}}
use Rattle.tests_pins.specs.Choices.{earliest, latest}
use Rattle.tests_pins.proofs.choices.folds.Goals as goal

pub returns : goal.returns
returns c = record {
  first = λ k. taken_in earliest (pos 3_600) k refl;
  is_first = record { taken = Shown (pos 3_600); takes = takes_fold earliest (Ok (Shown (pos 3_600))) refl; offset = refl };
  is_last = record { taken = Shown (pos 0); takes = takes_fold latest (Ok (Shown (pos 0))) refl; offset = refl };
  last = λ k. taken_in latest (pos 0) k refl;
  refused = λ k h. let one = one_taken set_back (pos 1_800) refuse (Ok h.taken) (Err Fold) h.takes (takes_fold refuse (Err Fold) refl) in cc;
  why = λ e h. unresolved_once set_back (pos 1_800) refuse e Fold h (refused (takes_fold refuse (Err Fold) refl));
  is_why = refused (takes_fold refuse (Err Fold) refl);
  is_instant = record {
    offset = pos 3_600;
    taken = record { taken = Shown (pos 3_600); takes = takes_fold earliest (Ok (Shown (pos 3_600))) refl; offset = refl };
    in_range = (omega arith, omega arith);
    at = grind (arith, ints);
  };
  instant = λ d h. grind (arith, ints, taken_in earliest (pos 3_600) h.offset refl h.taken);
}
