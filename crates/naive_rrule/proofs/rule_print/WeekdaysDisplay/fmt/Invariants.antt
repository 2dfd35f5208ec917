use Rattle.std.proofs.Common.{◌∷◌, take}
use Rattle.std.specs.{Fmt.{HasWritten, IsPlainFormatter}, List.{flat_map}}
use Rattle.naive_rrule.specs.RulePrints.{entry_text}
use Rattle.naive_rrule.proofs.rule_print.WeekdaysDisplay.fmt.Given as goal

abbrev pub invariant-loop-other : goal.invariant-loop-other
invariant-loop-other g l = IsPlainFormatter l.initial.f
    → HasWritten g.W.Write.write_str_gives l.initial.f (flat_map (λ x. 44 ∷ entry_text x) (take l.other-index l.others)) l.f
