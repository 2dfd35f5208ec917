-- Answers of wall clocks: equal sets of seconds, and two sets of which one comes before the other.
use Rattle.{
  offset_core.specs.declared.local_result.LocalResult.TheVariants.{Ambiguous, None, Single},
  tz_info.proofs.Words.{IsWallAnswer, LocalResult, arith, joined, linear, ℤ, ⊎_elim, ◌<ℤ◌, ◌≡◌, ◌≤ℤ◌, ◌⊎◌},
}

-- p and q take the same seconds
pub same_answer : {T : Type 0} (p q : ℤ → T → Type 0) (a : LocalResult T) → ((u : ℤ) (t : T) → p u t → q u t) → ((u : ℤ) (t : T) → q u t → p u t)
    → IsWallAnswer p a → IsWallAnswer q a
same_answer p q a to from h = grind linear

-- r takes what p takes and what q takes, and p's seconds come before q's
pub record Parts {T : Type 0} (p q r : ℤ → T → Type 0) : Type 0 where
  pub first : (u : ℤ) (t : T) → p u t → r u t
  pub last : (u : ℤ) (t : T) → q u t → r u t
  pub all : (u : ℤ) (t : T) → r u t → p u t ⊎ q u t
  pub order : (u v : ℤ) (s t : T) → p u s → q v t → u <ℤ v

-- r takes the first of p's seconds first, and the last of q's last
both : {T : Type 0} {p q r : ℤ → T → Type 0} {a d : T} → Parts p q r → (f n : ℤ) → p f a → q n d → ((u : ℤ) (t : T) → p u t → f ≤ℤ u)
    → ((u : ℤ) (t : T) → q u t → u ≤ℤ n) → IsWallAnswer r (Ambiguous a d)
both o f n first last low high = record {
  first = f;
  last = n;
  several = o.order _ _ _ _ first last;
  at_first = o.first _ _ first;
  at_last = o.last _ _ last;
  not_before = λ u t k. ⊎_elim (low u t) (λ h. let e = o.order _ u _ t first h in omega linear) (o.all u t k);
  not_after = λ u t k. ⊎_elim (λ h. let e = o.order u _ t _ h last in omega linear) (high u t) (o.all u t k);
}

pub joined_answer : {T : Type 0} (p q r : ℤ → T → Type 0) (a b : LocalResult T) → Parts p q r → IsWallAnswer p a
    → IsWallAnswer q b → IsWallAnswer r (joined a b)
joined_answer p q r None b o x y = grind (linear, same_answer)
joined_answer p q r a None o x y = grind (linear, same_answer)
joined_answer p q r (Single a) (Single c) o x y =
    both o _ _ x.shown y.shown (λ u t k. let e = x.only u t k in omega linear) (λ u t k. let e = y.only u t k in omega linear)
joined_answer p q r (Single a) (Ambiguous c d) o x y = both o _ _ x.shown y.at_last (λ u t k. let e = x.only u t k in omega linear) y.not_after
joined_answer p q r (Ambiguous a b) (Single c) o x y = both o _ _ x.at_first y.shown x.not_before (λ u t k. let e = y.only u t k in omega linear)
joined_answer p q r (Ambiguous a b) (Ambiguous c d) o x y = both o _ _ x.at_first y.at_last x.not_before y.not_after

-- q takes the second c more, which comes after all others
pub after_answer : {T : Type 0} (p q : ℤ → T → Type 0) (c : ℤ) (t : T) (answer : LocalResult T) → ((u : ℤ) (f : T) → p u f → q u f)
    → ((u : ℤ) (f : T) → q u f → p u f ⊎ (u ≡ c)) → q c t → ((u : ℤ) (f : T) → p u f → u <ℤ c) → IsWallAnswer p answer
    → IsWallAnswer q (joined answer (Single t))
after_answer p q c t _ old only h below s = grind arith
