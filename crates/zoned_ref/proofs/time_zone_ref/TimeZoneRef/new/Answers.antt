use Rattle.zoned_ref.proofs.{Words.{arith, sym, ◌∙◌}, Offsets.{are_offsets, offset_alone, offsets_within}}
use Rattle.zoned_ref.proofs.time_zone_ref.TimeZoneRef.new.Goals as goal

pub invariant_of-result : goal.invariant_of-result
invariant_of-result c =
    record { narrow = c.is_narrow.ensures.0 c.if-is_narrow.true; offsets = ∣ c.has_offsets.ensures ∣₁; within_day = grind (arith, offsets_within) }

pub returns-then-is_narrow-clause-offsets : goal.returns-then-is_narrow-clause-offsets
returns-then-is_narrow-clause-offsets c = grind (arith, are_offsets)

pub returns-then-is_narrow-clause-one_offset : goal.returns-then-is_narrow-clause-one_offset
returns-then-is_narrow-clause-one_offset c k one = offset_alone _ _ k (returns-then-is_narrow-clause-offsets c) one

pub returns-then-is_narrow-clause-fixed : goal.returns-then-is_narrow-clause-fixed
returns-then-is_narrow-clause-fixed c k one u v first last =
    returns-then-is_narrow-clause-one_offset c k one u first ∙ sym (returns-then-is_narrow-clause-one_offset c k one v last)
