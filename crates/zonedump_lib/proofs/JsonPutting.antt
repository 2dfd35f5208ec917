-- Tokens that are written one after the other, and read back as a value, and how deep values nest.
use Rattle.json.proofs.Printed.Trees.{value-json_tokens}
use Rattle.zonedump_lib.proofs.CitedWords.{Bound, Change, Difference, Json, LeapSecond, List, LocalType, Ok, Option, Puts, Result, Some, Token, TransitionRule}
use Rattle.zonedump_lib.proofs.CitedWords.{Writes, Written, Zone, append-nil, append_assoc, arith, bound_value, change_value, depth, difference_value}
use Rattle.zonedump_lib.proofs.CitedWords.{differences_value, document, [], end_array, flat_map, flat_map_more, get_or, items_depth, items_of, items_tokens}
use Rattle.zonedump_lib.proofs.CitedWords.{json_tokens, leap_value, length, map, max_depth, name_value, on_ok_weaker, print, refl, rule_value, take, take_more}
use Rattle.zonedump_lib.proofs.CitedWords.{tokens, type_value, zone_value, ℕ, ◌++◌, ◌+◌, ◌<◌, ◌∷◌, ◌≡◌, ◌≤◌}

pub wrote : {E : Type 0} {r : Result (Unit {0}) E} {old new : Written} {t : Token} → Writes r old new t → Puts r old new (t ∷ [])
wrote {r = r} w = record { tokens = w.ok; before = on_ok_weaker r (λ _. w.room.0) w.ok }

pub puts_then : {E F : Type 0} {u : Unit {0}} {r : Result (Unit {0}) E} {old one end : Written} {ts us : List Token}
    → Puts {E = F} (Ok u) old one ts → Puts r one end us → Puts r old end (ts ++ us)
puts_then {r = r} {old = old} {ts = ts} {us = us} first others = grind (arith, on_ok_weaker, append_assoc)

-- the items of an array, and its closing bracket
pub items_all : {A : Type 0} (f : A → Json) (xs : List A) → items_tokens (items_of (map f xs)) ≡ flat_map (λ x. json_tokens (f x)) xs ++ end_array ∷ []
items_all f [] = refl
items_all f (x ∷ xs) = grind (arith, items_all f xs, append_assoc)

-- items that nest no deeper than d are together no deeper
pub items_shallow : {A : Type 0} (f : A → Json) (d : ℕ) → ((x : A) → depth (f x) ≤ d) → (xs : List A) → items_depth (items_of (map f xs)) ≤ d
items_shallow f d each [] = omega arith
items_shallow f d each (x ∷ xs) = omega (arith, each x, items_shallow f d each xs)

-- the tokens or the bytes of one item more
pub pushed : {X Y : Type 0} (f : X → List Y) (xs : List X) (i : ℕ) (d item : X) (start out new : List Y) → i < length xs
    → item ≡ get_or xs i d → out ≡ start ++ flat_map f (take i xs) → new ≡ out ++ f item → new ≡ start ++ flat_map f (take (i + 1) xs)
pushed f xs i d item start out new below is was now = grind (arith, flat_map_more, take_more)

-- the printed tokens of a value are a text of that value
pub read_back : (text before : List ℕ) (j : Json) (ts : List Token) → ts ≡ json_tokens j → before ≡ [] → text ≡ before ++ print ts → tokens (print ts) ≡ ts
    → depth j ≤ max_depth → (document text ≡ Some j) × (text ≡ print (json_tokens j))
read_back text before j ts are none printed back shallow = grind (arith, append-nil (json_tokens j), value-json_tokens j max_depth [] shallow)

-- ---- how deep the values of a year or day, of a change, of a zone and of a difference nest

bound_shallow : (b : Bound) → depth (bound_value b) ≤ 0
bound_shallow b = grind arith

name_shallow : (n : Option (List ℕ)) → depth (name_value n) ≤ 0
name_shallow n = grind arith

pub type_shallow : (t : LocalType) → depth (type_value t) ≤ 1
type_shallow t = omega (arith, name_shallow t.name)

pub change_shallow : (c : Change) → depth (change_value c) ≤ 2
change_shallow c = omega (arith, type_shallow c.before, type_shallow c.after)

rule_shallow : (r : Option TransitionRule) → depth (rule_value r) ≤ 3
rule_shallow r = grind arith

leap_shallow : (e : LeapSecond) → depth (leap_value e) ≤ 2
leap_shallow e = omega arith

pub zone_shallow : (name : List ℕ) (first last : Bound) (zone : Zone) (changes : List Change) → depth (zone_value name first last zone changes) ≤ max_depth
zone_shallow name first last zone changes =
    omega (
      arith,
      bound_shallow first,
      bound_shallow last,
      rule_shallow zone.rule,
      items_shallow leap_value 2 leap_shallow zone.leaps,
      items_shallow change_value 2 change_shallow changes,
    )

difference_shallow : (d : Difference) → depth (difference_value d) ≤ 2
difference_shallow d = omega (arith, type_shallow d.old, type_shallow d.new)

pub differences_shallow : (old_name new_name : List ℕ) (first last : Bound) (ds : List Difference)
    → depth (differences_value old_name new_name first last ds) ≤ max_depth
differences_shallow old_name new_name first last ds =
    omega (arith, bound_shallow first, bound_shallow last, items_shallow difference_value 2 difference_shallow ds)
