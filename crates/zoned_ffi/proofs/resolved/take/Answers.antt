use Rattle.zoned_ffi.proofs.Words.{arith, Fits64, FitsSigned, IsTakenType, Ok, Shows, TypeAt, ap, policy_of, refl, rules, taken_right, to_z-of_z, w32, ◌∙◌}
use Rattle.offset_core.specs.declared.around.Taken.TheVariants.{Shown}
use Rattle.tz_info.specs.{Around.{Skips}, HeldChanges.{change_held}}
use Rattle.zoned_ffi.proofs.Resolving.{in_force, shifts_forward, taken_as}
use Rattle.zoned_ffi.proofs.resolved.take.Goals as goal

pub returns-in-Ok-Shown : goal.returns-in-Ok-Shown
returns-in-Ok-Shown c =
    let fits : FitsSigned w32 c.offset.result = search rules in
    let z = c.args.zone.now in let l = c.args.local.secs in
    let takes = taken_as z l c.args.choice (λ t. t.now) change_held _ _ _ _ c.held_types_around.ensures c.policy.ensures c.take.ensures
    (c.in-Ok-Shown.is ∙ ap Ok c.in-Ok-Shown.field-0-is) in
    let shown = taken_right (Shows (TypeAt z) l) (Skips (TypeAt z) l) (policy_of c.args.choice) (Shown c.in-Ok-Shown.only.now) takes in
    in_force z l c.args.choice shown.0 _ _ shown.1 (IsTakenType.shown takes) (to_z-of_z fits ∙ c.offset.ensures.value) c.offset.ensures.bound

pub returns-in-End : goal.returns-in-End
returns-in-End c =
    let fits : FitsSigned w32 c.offset-in-End.result = search rules in let at : Fits64 c.in-Ok-InGap.change.at = search rules in
    let change = change_held c.in-Ok-InGap.change in
    let takes = taken_as _ _ c.args.choice (λ t. t.now) change_held _ _ _ _ c.held_types_around.ensures c.policy.ensures c.take.ensures
    (c.in-Ok-InGap.is ∙ ap Ok c.in-Ok-InGap.field-0-is) in
    simp to_z-of_z (change.after, record { before = change.before; takes = takes; end = c.in-End.is }, c.offset-in-End.ensures.value)

pub returns-in-ShiftBackward : goal.returns-in-ShiftBackward
returns-in-ShiftBackward c =
    let fits : FitsSigned w32 c.offset-in-ShiftBackward.result = search rules in
    let takes = taken_as _ _ c.args.choice (λ t. t.now) change_held _ _ _ _ c.held_types_around.ensures c.policy.ensures c.take.ensures
    (c.in-Ok-InGap.is ∙ ap Ok c.in-Ok-InGap.field-0-is) in
    let change = change_held c.in-Ok-InGap.change in
    (change.after, IsTakenType.shifted_backward change takes c.in-ShiftBackward.is refl, to_z-of_z fits ∙ c.offset-in-ShiftBackward.ensures.value)

pub returns-in_default : goal.returns-in_default
returns-in_default c =
    let fits : FitsSigned w32 c.offset-in_default.result = search rules in
    let takes = taken_as _ _ c.args.choice (λ t. t.now) change_held _ _ _ _ c.held_types_around.ensures c.policy.ensures c.take.ensures
    (c.in-Ok-InGap.is ∙ ap Ok c.in-Ok-InGap.field-0-is) in
    let change = change_held c.in-Ok-InGap.change in
    let forward = shifts_forward c.args.choice takes.around change takes.taken c.in_default.not-End c.in_default.not-ShiftBackward in
    (change.before, IsTakenType.shifted_forward change takes forward refl, to_z-of_z fits ∙ c.offset-in_default.ensures.value)

pub returns-in-Err : goal.returns-in-Err
returns-in-Err c = grind (arith, taken_as)
