-- A change of the clocks as a JSON value.
use Rattle.std.specs.{Prelude.{ℕ, ℤ, ◌-ℤ◌, int_lt, unsigned_abs, List, [], ◌∷◌, map, Option, Some, None, codes, decimal, if◌then◌else◌}, Fmt.{signed_decimal}}
use Rattle.json.specs.{Json.{Json, null, boolean, number, string, array, object, Members, no_members, member}, Value.{items_of}}
use Rattle.tz_base.specs.{LocalTypes.{LocalType}, declared.change.Change.{Change}}
use Rattle.zonedump_lib.specs.Words.{clock_words}

abbrev pub members_from : List (List ℕ × Json) → Members
members_from [] = no_members
members_from (m ∷ ms) = member m.0 m.1 (members_from ms)

-- an object of those names and values
abbrev pub fields : List (List ℕ × Json) → Json
fields ms = object (members_from ms)

abbrev pub name_value : Option (List ℕ) → Json
name_value None = null
name_value (Some name) = string name

-- a type of local time: seconds east of UTC, whether it is daylight saving time, and its name
abbrev pub type_value : LocalType → Json
type_value t =
    fields ((codes "offset", number (signed_decimal t.offset)) ∷ (codes "dst", boolean t.dst) ∷ (codes "name", name_value t.name) ∷ [])

-- clocks that go on by a greater offset skip the difference, a gap; those that go on by a lesser one repeat it, a fold
abbrev pub step_name : ℤ → ℤ → List ℕ
step_name before after = if int_lt before after then codes "gap" else if int_lt after before then codes "fold" else codes "none"

-- a change: its second in Unix time and as UTC shows it, the types before and after, and the gap or the fold and its length in
-- seconds
abbrev pub change_value : Change → Json
change_value c =
    fields
    ((codes "at", number (signed_decimal c.at))
    ∷ (codes "utc", string (clock_words c.at))
    ∷ (codes "before", type_value c.before)
    ∷ (codes "after", type_value c.after)
    ∷ (codes "step", string (step_name c.before.offset c.after.offset))
    ∷ (codes "length", number (decimal (unsigned_abs (c.after.offset -ℤ c.before.offset))))
    ∷ [])

-- a list of values
abbrev pub list_value : {A : Type 0} → (A → Json) → List A → Json
list_value f xs = array (items_of (map f xs))
