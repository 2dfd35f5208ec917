-- What the clocks of a second print.
use Rattle.std.specs.Prelude.{ℕ, List, ◌++◌, codes}
use Rattle.naive_base.specs.NaiveDateTime.{reading}
use Rattle.zonedump_lib.specs.{ZdumpLines.{asctime_text}, declared.zdump.ClocksText.{ClocksText}}

-- what a clock of UTC and a local one show
abbrev pub clocks_of : ClocksText → List ℕ
clocks_of text = asctime_text (reading text.0) ++ codes " UT = " ++ asctime_text (reading text.1)
