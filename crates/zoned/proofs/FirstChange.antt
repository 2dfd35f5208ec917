-- The first of the changes of a stretch is the first change from its first second on.
use Rattle.zoned.proofs.Words.{AreChanges, Change, IsAfter, IsFirst, List, MatchOption, None, Option, Some, TypeAt, Zone, ap, arith, get_or, ints, last_second}
use Rattle.zoned.proofs.Words.{length, pos, refl, suc, zero, ℕ, ℤ, [], ◌+ℤ◌, ◌-ℤ◌, ◌<ℤ◌, ◌<◌, ◌∷◌, ◌≡◌, ◌≤ℤ◌}

-- the list begins with c
abbrev pub BeginsWith : Change → List Change → Type 0
BeginsWith c changes = (rest : List Change) × (changes ≡ c ∷ rest)

at_place : (z : Zone) (from until : ℤ) (c d : Change) (rest : List Change) → AreChanges (TypeAt z) from until (d ∷ rest) → c.at ≤ℤ d.at
    → (k : ℕ) → k < length (d ∷ rest) → get_or (d ∷ rest) k c ≡ c → BeginsWith c (d ∷ rest)
at_place z from until c d rest h first zero inside there = (rest, ap (λ e. e ∷ rest) there)
at_place z from until c d rest h first (suc k) inside there = grind (arith, ints, h.rising 0 (suc k) c (omega arith) inside)

pub first_listed : (z : Zone) (from until : ℤ) (changes : List Change) (next : Option Change)
    → AreChanges (TypeAt z) from until changes → IsFirst (TypeAt z) (IsAfter (from -ℤ pos 1)) next → until ≤ℤ (last_second +ℤ pos 1)
    → MatchOption next (changes ≡ []) (λ c. (until ≤ℤ c.at → changes ≡ []) × (c.at <ℤ until → BeginsWith c changes))
first_listed z from until [] None h p to = refl
first_listed z from until [] (Some c) h p to = grind (arith, ints)
first_listed z from until (d ∷ rest) None h p to =
    let head = (h.each d).0 (0, omega arith, refl) in grind (arith, ints)
first_listed z from until (d ∷ rest) (Some c) h p to =
    let head = (h.each d).0 (0, omega arith, refl) in
    let after = head.1.0 in let before = head.1.1 in
    let first = p.nearest d head.0 (omega (arith, ints, after), omega (arith, ints, before, to)) in (
      λ late. absurd (omega (arith, ints, late, first, before)),
      λ early. let inside = p.inside.0 in let found = (h.each c).1 (p.is, (omega (arith, ints, inside), early)) in
          at_place z from until c d rest h first found.0 found.1 found.2,
    )
