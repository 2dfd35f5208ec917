-- The order of the names in the designations that are written (RFC 8536 section 3.2 leaves it open): the longest first, those of one
-- length in the order of their types, and none that is there already, even as the end of a longer one. If a name would begin past byte
-- 255 then, another one is put last.
use Rattle.std.specs.Prelude.{ℕ, suc, ◌<◌, ◌+◌, Bool, ◌&&◌, ◌==◌, nat_lt, nat_le, not, if◌then◌else◌, List, [], ◌∷◌, ◌++◌, length, slice_index, drop, All}
use Rattle.std.specs.{Prelude.{Option, Some, None}, Bool.{nat_eq}, List.{fold, starts_with, ends_with, list_all}}
use Rattle.tz_base.specs.{Fronts.{run_of}, LocalTypes.{LocalType}}
use Rattle.tz_file.specs.FileContents.{is_not_zero}
use Rattle.tz_write.specs.FileDesignations.{name_of, place_limit}

-- the bytes begin with the text and a 0 byte
unfoldable pub begins : List ℕ → List ℕ → Bool
begins text bytes = starts_with nat_eq bytes text && (nat_lt (length text) (length bytes) && (slice_index bytes (length text) == 0))

-- the first place of the text, or the end
abbrev pub place_of : List ℕ → List ℕ → ℕ
place_of text [] = 0
place_of text (b ∷ bs) = if begins text (b ∷ bs) then 0 else suc (place_of text bs)

-- the type's text is in the designations, and its first place is one that a byte can name
pub record HasPlace (designations : List ℕ) (t : LocalType) : Type 0 where
  pub stands : place_of (name_of t) designations < length designations
  pub named : place_of (name_of t) designations < place_limit

abbrev pub HavePlaces : List ℕ → List LocalType → Type 0
HavePlaces designations types = All (HasPlace designations) types

-- the tests of them
abbrev pub has_place : List ℕ → LocalType → Bool
has_place designations t =
    nat_lt (place_of (name_of t) designations) (length designations) && nat_lt (place_of (name_of t) designations) place_limit

abbrev pub have_places : List ℕ → List LocalType → Bool
have_places designations types = list_all (has_place designations) types

-- the text and a 0 byte are put at the end, unless the text is there already, or there is no room for it: a text of seven bytes at
-- place 255 and its 0 byte end at 263
unfoldable pub with_text : List ℕ → List ℕ → List ℕ
with_text designations text =
    if nat_lt (place_of text designations) (length designations) then designations
    else (if nat_lt (length designations + length text) 263 then designations ++ (text ++ 0 ∷ []) else designations)

-- the text of the type, if it has that size and doesn't end the last one
abbrev pub with_text_of : List ℕ → ℕ → List ℕ → LocalType → List ℕ
with_text_of last size designations t =
    if (length (name_of t) == size) && not (ends_with nat_eq last (name_of t)) then with_text designations (name_of t) else designations

-- the texts of that size
unfoldable pub with_texts : List ℕ → ℕ → List ℕ → List LocalType → List ℕ
with_texts last size designations types = fold (with_text_of last size) designations types

-- the texts that don't end the last one; names have seven to three bytes
unfoldable pub before_last : List ℕ → List LocalType → List ℕ
before_last last types =
    with_texts last 3 (with_texts last 4 (with_texts last 5 (with_texts last 6 (with_texts last 7 [] types) types) types) types) types

-- the designations with that text as the last; with the empty text they are in order
unfoldable pub laid : List ℕ → List LocalType → List ℕ
laid last types = with_text (before_last last types) last

-- the text at that place of the designations: the bytes in front of the next 0 byte
abbrev pub text_at : List ℕ → ℕ → List ℕ
text_at designations place = run_of is_not_zero (drop place designations)

-- each type has a place in the designations, and they are no longer than those in order
unfoldable pub are_placed : List ℕ → List LocalType → Bool
are_placed designations types = nat_le (length designations) (length (laid [] types)) && have_places designations types

-- the designations with that text as the last, if it is a name and they are placed then
unfoldable pub placed_with : List LocalType → List ℕ → Option (List ℕ)
placed_with types last = if nat_lt (length last) 3 then None else (if are_placed (laid last types) types then Some (laid last types) else None)

-- the first of two, if there is one
abbrev pub or_else : Option (List ℕ) → Option (List ℕ) → Option (List ℕ)
or_else None other = other
or_else (Some designations) other = Some designations

-- the designations with the first of these texts as the last that they can have: the texts that begin at each byte
abbrev pub placed_otherwise : List LocalType → List ℕ → Option (List ℕ)
placed_otherwise types [] = None
placed_otherwise types (b ∷ bs) = or_else (placed_with types (run_of is_not_zero (b ∷ bs))) (placed_otherwise types bs)

-- the designations of the types, if any have each name at a place that a byte can name: those in order, or else the first of the others
unfoldable pub laid_names : List LocalType → Option (List ℕ)
laid_names types = if have_places (laid [] types) types then Some (laid [] types) else placed_otherwise types (laid [] types)
