-- The differences of two zones in a period, as lines and as a JSON value.
use Rattle.std.specs.{Prelude.{◌≡◌, ℕ, ℤ, ◌-ℤ◌, List, [], ◌∷◌, ◌++◌, Some, codes}, Fmt.{signed_decimal}, List.{flat_map}}
use Rattle.json.specs.{Json.{Json, number, string, document}, Print.{print}, Tree.{json_tokens}}
use Rattle.tz_info.specs.{Differences.{AreDifferences}, Zones.{Zone, TypeAt}, declared.zone.ask.differences.Difference.{Difference}}
use Rattle.zonedump_lib.specs.{ChangeLines.{ended_line}, ChangeValues.{fields, list_value, type_value}, Words.{clock_words}}
use Rattle.zonedump_lib.specs.{Periods.{bound_value, first_second, second_after}, Words.{type_words}, declared.period.Bound.{Bound}}

-- the differences of two zones from the first second of a period to its last one in UTC
abbrev pub AreDifferencesIn : Zone → Zone → Bound → Bound → List Difference → Type 0
AreDifferencesIn old_zone new_zone first last ds = AreDifferences (TypeAt old_zone) (TypeAt new_zone) (first_second first) (second_after last) ds

-- by how many seconds clocks of the new zone are ahead of those of the old one
abbrev pub moved_by : Difference → ℤ
moved_by d = d.new.offset -ℤ d.old.offset

-- a difference: what UTC shows at its first second and at the second after its last one, both types, and the seconds by which clocks move
abbrev pub difference_text : Difference → List ℕ
difference_text d =
    clock_words d.from ++ codes " to " ++ clock_words d.until ++ codes " UTC  " ++ type_words d.old ++ codes " -> " ++ type_words d.new
    ++ codes "  moved by " ++ signed_decimal (moved_by d) ++ codes " s"

-- a line for each difference
abbrev pub difference_lines : List Difference → List ℕ
difference_lines ds = flat_map (λ d. ended_line (difference_text d)) ds

-- a difference: its first second and the second after its last one, in Unix time and as UTC shows them, both types, and the seconds by
-- which clocks move
abbrev pub difference_value : Difference → Json
difference_value d =
    fields
    ((codes "from", number (signed_decimal d.from))
    ∷ (codes "from_utc", string (clock_words d.from))
    ∷ (codes "until", number (signed_decimal d.until))
    ∷ (codes "until_utc", string (clock_words d.until))
    ∷ (codes "old", type_value d.old)
    ∷ (codes "new", type_value d.new)
    ∷ (codes "moved", number (signed_decimal (moved_by d)))
    ∷ [])

-- the two zones under their names, with those differences
abbrev pub differences_value : List ℕ → List ℕ → Bound → Bound → List Difference → Json
differences_value old_name new_name first last ds =
    fields
    ((codes "old", string old_name)
    ∷ (codes "new", string new_name)
    ∷ (codes "from", bound_value first)
    ∷ (codes "to", bound_value last)
    ∷ (codes "differences", list_value difference_value ds)
    ∷ [])

-- the JSON text of that value: its printed tokens
pub record IsDifferencesJson (old_name new_name : List ℕ) (first last : Bound) (ds : List Difference) (text : List ℕ) : Type 0 where
  pub value_is : document text ≡ Some (differences_value old_name new_name first last ds)
  pub printed : text ≡ print (json_tokens (differences_value old_name new_name first last ds))

-- a zone that only one of two folders has, by its path
abbrev pub lone_value : List ℕ → Json
lone_value path = fields ((codes "only", string path) ∷ [])

-- the JSON text of that value: its printed tokens
pub record IsLoneJson (path text : List ℕ) : Type 0 where
  pub value_is : document text ≡ Some (lone_value path)
  pub printed : text ≡ print (json_tokens (lone_value path))
