-- A word on lists.
use Rattle.std.specs.Prelude.{List, [], ◌∷◌}

-- the last item, or d if the list is empty
abbrev pub last_else : {X : Type 0} → X → List X → X
last_else d [] = d
last_else d (x ∷ xs) = last_else x xs
