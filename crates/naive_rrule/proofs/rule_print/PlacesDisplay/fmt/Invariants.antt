use Rattle.std.proofs.Common.{◌∷◌, take}
use Rattle.std.specs.{Fmt.{signed_decimal, HasWritten, IsPlainFormatter}, List.{flat_map}}
use Rattle.naive_rrule.proofs.rule_print.PlacesDisplay.fmt.Given as goal

abbrev pub invariant-loop-other : goal.invariant-loop-other
invariant-loop-other g l = IsPlainFormatter l.initial.f
    → HasWritten g.W.Write.write_str_gives l.initial.f (flat_map (λ x. 44 ∷ signed_decimal x) (take l.other-index l.others)) l.f
