-- What is put together in a buffer and written at once.
use Rattle.zoned_time.proofs.Words.{DisplaysOnOk, Error, Formatter, List, None, Option, Result, Some, WritesOnOk, WritesText, ap, arith, contents_after_writes}
use Rattle.zoned_time.proofs.Words.{option_map, subst, [], ℕ, ◌++?◌, ◌++◌, ◌∙◌, ◌∷◌, ◌≡◌}

-- a buffer that takes each piece
abbrev pub Appends : List ℕ → List ℕ → List ℕ → Type 0
Appends old piece new = new ≡ old ++ piece

-- if the text in o came into an empty buffer, the buffer's text was written
pub at_once : {W : Type 0} (took : W → List ℕ → W → Type 0) (f g : Formatter W) (r : Result (Unit {0}) Error)
    (o : Option (List ℕ)) (empty text bytes : List ℕ) → empty ≡ [] → bytes ≡ text → WritesText Appends empty o text
    → WritesOnOk took f r bytes g → DisplaysOnOk took f r o g
at_once {W} took f g r None empty text bytes e same wrote h = tt
at_once {W} took f g r (Some bs) empty text bytes e same wrote h =
    let all = contents_after_writes Appends (λ (t : List ℕ). t) (λ w b v e. e) empty bs text wrote in
    subst (λ (t : List ℕ). WritesOnOk took f r t g) (same ∙ all ∙ ap (λ (t : List ℕ). t ++ bs) e) h

-- a local date-time, a space and the offset's text, if that is known
pub spaced : (a b : List ℕ) (o : Option (List ℕ)) → a ≡ b → Some a ++? (Some (32 ∷ []) ++? o) ≡ option_map (λ offset. b ++ (32 ∷ offset)) o
spaced a b o e = grind arith

-- the same with nothing between
pub joined : (a b : List ℕ) (o : Option (List ℕ)) → a ≡ b → Some a ++? o ≡ option_map (λ offset. b ++ offset) o
joined a b o e = grind arith
