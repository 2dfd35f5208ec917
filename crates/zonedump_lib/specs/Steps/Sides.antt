-- What the sides of a change print.
use Rattle.std.specs.Prelude.{ℕ, List, ◌++◌, codes}
use Rattle.naive_base.specs.{NaiveDateTime.{reading}, Text.{reading_text}}
use Rattle.zonedump_lib.specs.{Words.{type_words}, declared.change_lines.{Side.{Side}, SidesText.{SidesText}}}

-- the local date-time, and the type
abbrev pub side_of : Side → List ℕ
side_of side = reading_text 32 (reading side.0) ++ codes " " ++ type_words side.1.now

-- what a clock of UTC shows, and both sides
abbrev pub sides_of : SidesText → List ℕ
sides_of sides = reading_text 32 (reading sides.0) ++ codes " UTC  " ++ side_of sides.1 ++ codes " -> " ++ side_of sides.2
