-- White space of ASCII at both ends: spaces, tabs, line feeds, form feeds and carriage returns.
use Rattle.std.specs.{Prelude.{ℕ, List, [], ◌∷◌, if◌then◌else◌}, Char.{is_ascii_whitespace}, List.{list_all}}
use Rattle.tz_base.specs.Fronts.{after_run}

-- the bytes without that at their end
abbrev pub without_end : List ℕ → List ℕ
without_end [] = []
without_end (b ∷ bs) = if list_all is_ascii_whitespace (b ∷ bs) then [] else b ∷ without_end bs

-- the bytes without that at both ends
unfoldable pub trimmed : List ℕ → List ℕ
trimmed bytes = without_end (after_run is_ascii_whitespace bytes)
