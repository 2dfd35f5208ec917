-- Lines one after the other, and the seconds of the changes in a period.
use Rattle.zonedump_lib.proofs.CitedWords.{All, AreChanges, Bound, Change, Contains-get_or, IsInYears, IsNearYears, IsPeriod, List, LocalType, append_assoc}
use Rattle.zonedump_lib.proofs.CitedWords.{arith, [], change_lines, change_text, first_second, get_or, ints, length, pos, second_after, ℕ, ℤ, ◌++◌, ◌+ℤ◌, ◌+◌}
use Rattle.zonedump_lib.proofs.CitedWords.{◌-◌, ◌∷◌, ◌≡◌}
use Rattle.std.proofs.lemmas.List.Elements.{All-head, All-tail}

-- four pieces are appended, one by one
pub four_pieces : (start one two three four a b d e : List ℕ) → one ≡ start ++ a → two ≡ one ++ b → three ≡ two ++ d → four ≡ three ++ e
    → four ≡ start ++ (a ++ b ++ d ++ e)
four_pieces start one two three four a b d e first second third last = grind (arith, append_assoc)

-- the changes after the first second of a period, and up to the first second after it, come in the years
pub in_years : (in_force : ℤ → LocalType → Type 0) (first last : Bound) (changes : List Change) → IsPeriod first last
    → AreChanges in_force (first_second first +ℤ pos 1) (second_after last +ℤ pos 1) changes → All (λ c. IsInYears c.at) changes
in_years in_force first last changes period are k d within =
    let here = ((are.each (get_or changes k d)).0 (Contains-get_or changes k d within)).1 in
    grind (arith, ints, period.begins, period.ends)

-- the changes in a period come at seconds near the years
pub near_years : (in_force : ℤ → LocalType → Type 0) (first last : Bound) (changes : List Change) → IsPeriod first last
    → AreChanges in_force (first_second first) (second_after last) changes → All (λ c. IsNearYears c.at) changes
near_years in_force first last changes period are k d within =
    let here = ((are.each (get_or changes k d)).0 (Contains-get_or changes k d within)).1 in
    grind (arith, ints, period.begins, period.ends)

-- ---- a line is written of the first of the changes that are left

pub near_first : (c : Change) (left rest : List Change) → left ≡ c ∷ rest → All (λ x. IsNearYears x.at) left → IsNearYears c.at
near_first c left rest first near = All-head (λ x. IsNearYears x.at) c rest (rw first at near)

pub near_rest : (c : Change) (left rest : List Change) → left ≡ c ∷ rest → All (λ x. IsNearYears x.at) left → All (λ x. IsNearYears x.at) rest
near_rest c left rest first near = All-tail (λ x. IsNearYears x.at) c rest (rw first at near)

pub line_written : (c : Change) (left rest : List Change) (before after whole : List ℕ) → left ≡ c ∷ rest
    → after ≡ before ++ (change_text c ++ 10 ∷ []) → before ++ change_lines left ≡ whole → after ++ change_lines rest ≡ whole
line_written c left rest before after whole first line lines = grind (arith, append_assoc)

pub one_less : (c : Change) (left rest : List Change) (n k : ℕ) → left ≡ c ∷ rest → length left ≡ n - k → length rest ≡ n - (k + 1)
one_less c left rest n k first count = let l : length left ≡ length rest + 1 = grind arith in omega (arith, l, count)
