-- The names of zones of the tz database, as paths below the folder with its files ("Names of timezones" in the database's file `theory.html`).
use Rattle.std.specs.{Prelude.{ℕ, ◌==◌, nat_le, Bool, true, false, ◌&&◌, ◌||◌, List, [], ◌∷◌, ◌++◌, if◌then◌else◌}, List.{list_all, slice_split}}

-- a byte of a part of a name: a letter or a digit of ASCII, or one of `+`, `-`, `.` and `_`
abbrev pub is_part_byte : ℕ → Bool
is_part_byte b =
    (nat_le 65 b && nat_le b 90) || (nat_le 97 b && nat_le b 122) || (nat_le 48 b && nat_le b 57) || (b == 43) || (b == 45) || (b == 46) || (b == 95)

-- what a path has for the folder itself: nothing, or `.`
abbrev pub is_here : List ℕ → Bool
is_here [] = true
is_here (b ∷ []) = b == 46
is_here (b ∷ c ∷ rest) = false

-- what a path has for the folder above: `..`
abbrev pub is_above : List ℕ → Bool
is_above [] = false
is_above (b ∷ []) = false
is_above (b ∷ c ∷ []) = (b == 46) && (c == 46)
is_above (b ∷ c ∷ d ∷ rest) = false

-- a part of a name: bytes of names, which are neither none, nor `.`, nor `..`
abbrev pub is_part : List ℕ → Bool
is_part part = if is_here part || is_above part then false else list_all is_part_byte part

-- the parts of a path, between its slashes
abbrev pub parts_of : List ℕ → List (List ℕ)
parts_of path = slice_split (λ b. b == 47) path

-- a name, such as `America/Argentina/Buenos_Aires` or `Etc/GMT+5`: each part is one
abbrev pub is_zone_name : List ℕ → Bool
is_zone_name name = list_all is_part (parts_of name)

-- the path of a name in a folder
abbrev pub path_text : List ℕ → List ℕ → List ℕ
path_text folder name = folder ++ 47 ∷ name

-- the folder above another: the root is above itself
abbrev pub folder_above : List (List ℕ) → List (List ℕ)
folder_above [] = []
folder_above (name ∷ []) = []
folder_above (name ∷ other ∷ names) = name ∷ folder_above (other ∷ names)

-- the place to which the parts of a path lead from a folder, a list of names from the root on: a file or folder in it, itself, or the folder above
abbrev pub led_to : List (List ℕ) → List (List ℕ) → List (List ℕ)
led_to folder [] = folder
led_to folder (part ∷ parts) =
    led_to (if is_here part then folder else if is_above part then folder_above folder else folder ++ part ∷ []) parts
