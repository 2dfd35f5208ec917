-- Laws of the wall clock's answer, whatever the relation is.
use Rattle.offset_core.specs.declared.local_result.LocalResult.TheVariants.{Ambiguous, None, Single}
use Rattle.offset_core.proofs.Words.{IsWallAnswer, LocalResult, arith, ints, map_of, ℤ, ◌≡◌}

-- a second has at most one value
abbrev pub HasOneValue : {T : Type 0} → (ℤ → T → Type 0) → Type 0
HasOneValue {T} shows = (u : ℤ) (a b : T) → shows u a → shows u b → a ≡ b

-- at most one answer is right
pub one_wall_answer : {T : Type 0} (shows : ℤ → T → Type 0) → HasOneValue shows → (x y : LocalResult T)
    → IsWallAnswer shows x → IsWallAnswer shows y → x ≡ y
one_wall_answer shows value x y p q = grind (arith, ints)

-- if each value of one relation has its image in another at the same second, and the other shows no more, the images
-- make its answer: so types make an answer of offsets, and a bounded range of seconds the answer of all seconds
pub IsWallAnswer-map_of : {T U : Type 0} (shows : ℤ → T → Type 0) (shows_too : ℤ → U → Type 0) (f : T → U)
    → ((u : ℤ) (a : T) → shows u a → shows_too u (f a))
    → ((u : ℤ) (b : U) → shows_too u b → (a : T) × shows u a)
    → (x : LocalResult T) → IsWallAnswer shows x → IsWallAnswer shows_too (map_of f x)
IsWallAnswer-map_of shows shows_too f there back None never = λ u b s. let was = back u b s in never u was.0 was.1
IsWallAnswer-map_of shows shows_too f there back (Single a) once = grind (arith, ints)
IsWallAnswer-map_of shows shows_too f there back (Ambiguous a b) between = grind (arith, ints)
