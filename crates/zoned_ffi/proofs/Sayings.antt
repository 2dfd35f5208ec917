-- The texts of numbers.
use Rattle.zoned_ffi.specs.Texts.{IsTextOf, IsSaidOf.{No_error, Offset_or_name, Not_a_file, Text_limits, Bytes_missing, Other_byte, Text_number, No_zone}}
use Rattle.zoned_ffi.specs.Texts.IsSaidOf.{Text_day, Version, Not_utf8, Out_of_memory, In_gap, In_fold, Out_of_range, Unknown_kind, Other_size, Not_open}
use Rattle.zoned_ffi.specs.Texts.IsSaidOf.{Unknown_choice, No_change, Unknown_unit, No_local_time, No_date_time, Wide_zone, Other_index, Not_rising}
use Rattle.zoned_ffi.{specs.Texts.IsSaidOf.{Other_leaps, Other_rule, No_such_zone, Unreadable_file, Unknown_step, Above_limits}, proofs.Words.{IsSaidOf, List}}
use Rattle.zoned_ffi.proofs.Words.{inl, subst, sym, ℕ, ◌≡◌}

pub says : (n m : ℕ) (text : List ℕ) → n ≡ m → IsSaidOf m text → IsTextOf n text
says n m text is said = inl (subst (λ k. IsSaidOf k text) (sym is) said)

-- what each number says
pub ruleset sayings = (
  says,
  No_error,
  Offset_or_name,
  Not_a_file,
  Text_limits,
  Bytes_missing,
  Other_byte,
  Text_number,
  No_zone,
  Text_day,
  Version,
  Not_utf8,
  Out_of_memory,
  In_gap,
  In_fold,
  Out_of_range,
  Unknown_kind,
  Other_size,
  Not_open,
  Unknown_choice,
  No_change,
  Unknown_unit,
  No_local_time,
  No_date_time,
  Wide_zone,
  Other_index,
  Not_rising,
  Other_leaps,
  Other_rule,
  No_such_zone,
  Unreadable_file,
  Unknown_step,
  Above_limits,
)
