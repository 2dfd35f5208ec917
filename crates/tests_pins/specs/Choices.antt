-- Zones whose clocks are set once, by an hour, and choices.
use Rattle.std.specs.Prelude.{ℤ, pos}
use Rattle.std.proofs.Common.{negsuc}
use Rattle.offset_core.specs.declared.choice.{Choice.{Choice}, GapChoice.TheVariants.{Refuse as RefuseGap, ShiftForward}}
use Rattle.offset_core.specs.declared.choice.FoldChoice.TheVariants.{Refuse as RefuseFold, Earliest, Latest}
use Rattle.naive_base.specs.Reading.{Reading}
use Rattle.zoned_time.specs.Zone.{Meaning, Law, meaning_by_seconds, law_by_seconds}

-- 0 before 1970, and an hour from then on
abbrev pub set_forward : ℤ → ℤ
set_forward (pos u) = pos 3_600
set_forward (negsuc u) = pos 0

-- an hour before 1970, and 0 from then on
abbrev pub set_back : ℤ → ℤ
set_back (pos u) = pos 0
set_back (negsuc u) = pos 3_600

-- offsets that are nothing but their seconds, of the one zone and of the other
abbrev pub of_forward : Meaning ℤ
of_forward = meaning_by_seconds (λ k. k) (λ _. set_forward)

abbrev pub of_back : Meaning ℤ
of_back = meaning_by_seconds (λ k. k) (λ _. set_back)

abbrev pub forward : Law of_forward
forward = law_by_seconds set_forward

abbrev pub back : Law of_back
back = law_by_seconds set_back

-- seven nanoseconds after 1970-01-01 00:30:00
abbrev pub half_past : Reading
half_past = record { s = pos 1_800; f = 7 }

-- what is taken: nothing in a gap nor in a fold
abbrev pub refuse : Choice
refuse = record { gap = RefuseGap; fold = RefuseFold }

-- the instant by the offset before a gap, and nothing in a fold
abbrev pub shift : Choice
shift = record { gap = ShiftForward; fold = RefuseFold }

-- nothing in a gap, and in a fold the first instant, or the last
abbrev pub earliest : Choice
earliest = record { gap = RefuseGap; fold = Earliest }

abbrev pub latest : Choice
latest = record { gap = RefuseGap; fold = Latest }
