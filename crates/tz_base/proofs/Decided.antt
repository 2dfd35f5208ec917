-- What is read, decided: its value is what is meant, or its error is that of the fault. And how such laws go together.
use Rattle.std.proofs.Common.{arith, ◌≡◌, ℕ, ◌≤◌, List, Bool, cond, Ok, Err, Result, refl, inl, inr, ◌⊎◌}
use Rattle.std.specs.Bool.{Decides}
use Rattle.tz_base.specs.{Errors.{error_number}, Fronts.{◌>>=◌}, declared.error.Error.{Error}}

-- a value is read if and only if it is meant, and an error is returned if and only if its fault is there. Running out of memory
-- is no such error: the numbers are the first sixteen
pub record Decided (X : Type 0) (r : Result X Error) (P : X → Type 0) (F : Error → Type 0) : Type 0 where
  pub takes : (x : X) → r ≡ Ok x → P x
  pub again : (x : X) → P x → r ≡ Ok x
  pub fails : (err : Error) → r ≡ Err err → F err
  pub refuses : (err : Error) → F err → r ≡ Err err
  pub low : (err : Error) → r ≡ Err err → error_number err ≤ 16

-- one value or one fault, never both, and one of them
pub value_once : {X : Type 0} {r : Result X Error} {P : X → Type 0} {F : Error → Type 0} → Decided X r P F → (x y : X) → P x → P y → x ≡ y
value_once d x y p q = let a = d.again x p in let b = d.again y q in cc

pub fault_once : {X : Type 0} {r : Result X Error} {P : X → Type 0} {F : Error → Type 0} → Decided X r P F → (other err : Error) → F other → F err → other ≡ err
fault_once d other err f g = let a = d.refuses other f in let b = d.refuses err g in cc

pub apart : {X : Type 0} {r : Result X Error} {P : X → Type 0} {F : Error → Type 0} → Decided X r P F → (x : X) (err : Error) → P x → F err → ⊥
apart d x err p f = let a = d.again x p in let b = d.refuses err f in cc

pub either : {X : Type 0} {r : Result X Error} {P : X → Type 0} {F : Error → Type 0} → Decided X r P F → ((x : X) × P x) ⊎ ((err : Error) × F err)
either {r = Ok x} d = inl (x, d.takes x refl)
either {r = Err err} d = inr (err, d.fails err refl)

pub fault_low : {X : Type 0} {r : Result X Error} {P : X → Type 0} {F : Error → Type 0} → Decided X r P F → (err : Error) → F err → error_number err ≤ 16
fault_low d err f = d.low err (d.refuses err f)

-- the same in other words
pub like : {X : Type 0} {r : Result X Error} {P Q : X → Type 0} {F G : Error → Type 0} → Decided X r P F → ((x : X) → P x → Q x) → ((x : X) → Q x → P x)
    → ((err : Error) → F err → G err) → ((err : Error) → G err → F err) → Decided X r Q G
like d to from fault refused = grind arith

-- the value in other words, and the same faults
pub said : {X : Type 0} {r : Result X Error} {P Q : X → Type 0} {F : Error → Type 0} → Decided X r P F → ((x : X) → P x → Q x)
    → ((x : X) → Q x → P x) → Decided X r Q F
said d to from = like d to from (λ err f. f) (λ err f. f)

-- ---- one value after the other
bind : {X Y : Type 0} {r : Result X Error} {P : X → Type 0} {F : Error → Type 0} {f : X → Result Y Error} {Q : X → Y → Type 0} {G : X → Error → Type 0}
    → Decided X r P F → ((x : X) → P x → Decided Y (f x) (Q x) (G x))
    → Decided Y (r >>= f) (λ y. (x : X) × P x × Q x y) (λ err. F err ⊎ ((x : X) × P x × G x err))
bind d e = grind arith

-- ---- a value, and an error
pub done : {X : Type 0} (x : X) → Decided X (Ok x) (λ y. x ≡ y) (λ _. ⊥)
done x = grind arith

pub refused : {X : Type 0} (err : Error) → error_number err ≤ 16 → Decided X (Err err) (λ _. ⊥) (λ other. other ≡ err)
refused err l = grind arith

-- a value made of a value
pub made : {X Y : Type 0} {r : Result X Error} {P : X → Type 0} {F : Error → Type 0} (f : X → Y) → Decided X r P F
    → Decided Y (r >>= λ x. Ok (f x)) (λ y. (x : X) × P x × (f x ≡ y)) F
made f d = grind arith

-- ---- tests
-- one of two, by a test
pub choice : {X A : Type 0} {b : Bool} {r s : Result X Error} {P Q : X → Type 0} {F G : Error → Type 0} → Decides b A → Decided X r P F → Decided X s Q G
    → Decided X (cond b r s) (λ x. (A × P x) ⊎ (¬ A × Q x)) (λ err. (A × F err) ⊎ (¬ A × G err))
choice d e f = grind arith

-- a value if the test holds, the error if it does not
pub guard : {X A : Type 0} {b : Bool} (x : X) (err : Error) → error_number err ≤ 16 → Decides b A
    → Decided X (cond b (Ok x) (Err err)) (λ y. A × (x ≡ y)) (λ other. ¬ A × (other ≡ err))
guard x err l d = grind (arith, like, choice, done, refused)

-- ---- pieces of bytes, one after the other: a value and the bytes after it, and what is read of these
pub and_then : {X Y : Type 0} {a : Result (X × List ℕ) Error} {P : X → List ℕ → Type 0} {F : Error → Type 0} {b : X → List ℕ → Result Y Error} {Q : X → List ℕ
    → Y → Type 0} {G : X → List ℕ → Error → Type 0} → Decided (X × List ℕ) a (λ p. P p.0 p.1) F
    → ((x : X) (rest : List ℕ) → P x rest → Decided Y (b x rest) (Q x rest) (G x rest))
    → Decided Y (a >>= λ p. b p.0 p.1) (λ y. (x : X) × (rest : List ℕ) × P x rest × Q x rest y)
    (λ err. F err ⊎ ((x : X) × (rest : List ℕ) × P x rest × G x rest err))
and_then d e = like (bind d (λ p h. e p.0 p.1 h))
    (λ y h. (h.0.0, h.0.1, h.1, h.2))
    (λ y h. ((h.0, h.1), h.2, h.3))
    (λ err h. elim h [ inl f ↦ inl f | inr k ↦ inr (k.0.0, k.0.1, k.1, k.2) ])
    (λ err h. elim h [ inl f ↦ inl f | inr k ↦ inr ((k.0, k.1), k.2, k.3) ])
