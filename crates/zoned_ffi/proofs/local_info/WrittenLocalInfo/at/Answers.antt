use Rattle.zoned_ffi.proofs.{LocalInfoLaws.{once_by, several_by, shows_there}, Words.{Fits64, arith, ints, refl, rules, to_z-of_z}}
use Rattle.tz_info.specs.HeldChanges.{change_held}
use Rattle.zoned_ffi.specs.WrittenSpans.{IsLocalInfo}
use Rattle.zoned_ffi.proofs.local_info.WrittenLocalInfo.at.Goals as goal

pub shown_span-span-requires-clause-shown : goal.shown_span-span-requires-clause-shown
shown_span-span-requires-clause-shown c = grind (arith, ints, to_z-of_z, shows_there)

pub shown_span-requires-clause-shown : goal.shown_span-requires-clause-shown
shown_span-requires-clause-shown c = grind (arith, ints, to_z-of_z, shows_there)

pub shown_span-requires-in-Ambiguous-clause-shown : goal.shown_span-requires-in-Ambiguous-clause-shown
shown_span-requires-in-Ambiguous-clause-shown c =
    let fits : Fits64 c.secs_since_epoch-local.result = search rules in
    simp to_z-of_z (rw c.secs_since_epoch-local.ensures (shows_there _ c.args.local.secs _ _ c.in-Ambiguous.ensures.at_last))

pub returns-in-Single : goal.returns-in-Single
returns-in-Single c =
    let fits : Fits64 c.secs_since_epoch-local.result = search rules in
    once_by _ _ _ _ c.in-Single.ensures refl
    (rw c.secs_since_epoch-local.ensures at (simp to_z-of_z at c.shown_span-span.ensures)) refl

pub returns-in-Ambiguous : goal.returns-in-Ambiguous
returns-in-Ambiguous c =
    let fits : Fits64 c.secs_since_epoch-local.result = search rules in
    several_by _ _ _ _ _ c.in-Ambiguous.ensures refl
    (rw c.secs_since_epoch-local.ensures at (simp to_z-of_z at c.shown_span.ensures))
    (rw c.secs_since_epoch-local.ensures at (simp to_z-of_z at c.shown_span-in-Ambiguous.ensures))

pub returns-in-Gap : goal.returns-in-Gap
returns-in-Gap c =
    let fits : Fits64 c.secs_since_epoch-local.result = search rules in
    let at : Fits64 c.in-Gap.change.at = search rules in
    let before : Fits64 c.second_before.result = search rules in
    IsLocalInfo.never (change_held c.in-Gap.change) c.in-Gap.ensures refl
    (rw c.second_before.ensures at (simp to_z-of_z at c.typed_span.ensures))
    (simp to_z-of_z at c.typed_span-in-Gap.ensures)
