-- The place to which the parts of a name lead.
use Rattle.std.proofs.{Common.{ℕ, ◌≡◌, true, List, [], ◌∷◌, ◌++◌, arith}, lemmas.List.{append_assoc, append-nil}}
use Rattle.std.specs.List.{list_all}
use Rattle.zoned_files.specs.ZoneNames.{is_part, is_zone_name, led_to, parts_of}

parts_below : (folder parts : List (List ℕ)) → list_all is_part parts ≡ true → led_to folder parts ≡ folder ++ parts
parts_below folder [] all = grind (arith, append-nil)
parts_below folder (part ∷ parts) all =
    let here : led_to folder (part ∷ parts) ≡ led_to (folder ++ part ∷ []) parts = grind arith in
    let others : list_all is_part parts ≡ true = grind arith in
    grind (arith, append_assoc, parts_below (folder ++ part ∷ []) parts others)

pub below : (folder : List (List ℕ)) (name : List ℕ) → is_zone_name name ≡ true → led_to folder (parts_of name) ≡ folder ++ parts_of name
below folder name is_name = parts_below folder (parts_of name) is_name
