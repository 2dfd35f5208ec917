-- Parts of files.
use Rattle.tests_pins.proofs.Words.{Counts, List, Parts, Spells, block, length, refl, ℕ, ◌*◌, ◌++◌, ◌+◌, ◌≡◌}

-- parts of the lengths that the counts announce, end to end, are a block
pub parts_are : (w : ℕ) (c : Counts) (p : Parts) (rest : List ℕ) → length p.times ≡ c.transitions * w → length p.type_indexes ≡ c.transitions
    → length p.types ≡ c.types * 6 → length p.designations ≡ c.designations
    → length p.leap_seconds ≡ c.leap_seconds * (w + 4) → length p.standard_wall ≡ c.standard_wall → length p.ut_local ≡ c.ut_local
    → Spells (block w c) (p.times ++ (p.type_indexes ++ (p.types ++ (p.designations ++ (p.leap_seconds ++ (p.standard_wall ++ (p.ut_local ++ rest))))))) p rest
unfolding block
parts_are w c p rest h i j k l m n =
    (_, _, (refl, h), (_, _, (refl, i), (_, _, (refl, j), (_, _, (refl, k), (_, _, (refl, l), (_, _, (refl, m), (_, _, (refl, n), (refl, refl))))))))
