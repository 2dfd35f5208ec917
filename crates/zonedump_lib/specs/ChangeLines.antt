-- A line for each change of the clocks.
use Rattle.std.specs.{Prelude.{ℕ, ℤ, List, ◌++◌, codes, ◌-ℤ◌}, Fmt.{signed_decimal}, List.{flat_map}}
use Rattle.naive_base.specs.{Reading.{ahead}, Stamp.{of_secs}, Text.{reading_text}}
use Rattle.tz_base.specs.{LocalTypes.{LocalType}, declared.change.Change.{Change}}
use Rattle.zonedump_lib.specs.Words.{type_words, step_words}

-- what a clock at that offset shows at the second: `2021-03-14 02:00:00`
abbrev pub shown_text : ℤ → ℤ → List ℕ
shown_text at offset = reading_text 32 (ahead (of_secs at 0) offset)

-- what the clocks show at the second by the type, and the type
abbrev pub side_text : ℤ → LocalType → List ℕ
side_text at t = shown_text at t.offset ++ codes " " ++ type_words t

-- the gap or the fold, and the second: `gap of 3600 s at 1615705200`
abbrev pub step_text : Change → List ℕ
step_text c = step_words (c.after.offset -ℤ c.before.offset) ++ codes " at " ++ signed_decimal c.at

-- a change: what a clock of UTC shows at its second, what the clocks would have shown by the type before and what they show by
-- the type after, the gap or the fold, and the second
abbrev pub change_text : Change → List ℕ
change_text c =
    reading_text 32 (of_secs c.at 0) ++ codes " UTC  " ++ side_text c.at c.before ++ codes " -> " ++ side_text c.at c.after
    ++ codes "  " ++ step_text c

-- a line
abbrev pub ended_line : List ℕ → List ℕ
ended_line text = text ++ codes "\n"

-- a line for each change
abbrev pub change_lines : List Change → List ℕ
change_lines changes = flat_map (λ c. ended_line (change_text c)) changes
