-- A type of local time, a step of the clocks and what they show, in words.
use Rattle.std.specs.Prelude.{ℤ, pos, neg_ℤ, ℕ, List, ◌++◌, Bool, true, false, Option, Some, None, codes, decimal, int_lt, ◌&&◌, unsigned_abs, if◌then◌else◌}
use Rattle.std.specs.{Prelude.{int_le}, Fmt.{signed_decimal}}
use Rattle.offset_core.specs.Offset.{offset_text}
use Rattle.tz_base.specs.LocalTypes.{LocalType}
use Rattle.naive_base.specs.{Range.{first_second, last_second}, Stamp.{of_secs}, Text.{reading_text}}

-- an offset: `+HH:MM` or `+HH:MM:SS` within a day, else its seconds
unfoldable pub offset_words : ℤ → List ℕ
offset_words offset =
    if int_lt (neg_ℤ (pos 86_400)) offset && int_lt offset (pos 86_400) then offset_text offset else signed_decimal offset

-- the mark of daylight saving time
abbrev pub mark_words : Bool → List ℕ
mark_words true = codes "dst"
mark_words false = codes "std"

-- a name, or `-` for no name
abbrev pub name_words : Option (List ℕ) → List ℕ
name_words None = codes "-"
name_words (Some name) = name

-- a type of local time: `-05:00 std EST`
abbrev pub type_words : LocalType → List ℕ
type_words t = offset_words t.offset ++ codes " " ++ mark_words t.dst ++ codes " " ++ name_words t.name

-- clocks that are set forward by that many seconds skip as many, which is a gap; clocks that are set back repeat them, which
-- is a fold
unfoldable pub step_words : ℤ → List ℕ
step_words step =
    if int_lt (pos 0) step then codes "gap of " ++ decimal (unsigned_abs step) ++ codes " s"
    else if int_lt step (pos 0) then codes "fold of " ++ decimal (unsigned_abs step) ++ codes " s"
    else codes "no step"

-- the date and the time of that many seconds after 1970-01-01 00:00:00, or the seconds if the calendar's range doesn't have them
abbrev pub is_shown : ℤ → Bool
is_shown s = int_le first_second s && int_le s last_second

unfoldable pub clock_words : ℤ → List ℕ
clock_words s = if is_shown s then reading_text 32 (of_secs s 0) else signed_decimal s
