-- The instants at which the clocks of a zone show a local time, as their seconds.
use Rattle.offset_core.specs.declared.local_result.LocalResult.TheVariants.{Ambiguous, None as none, Single}
use Rattle.zoned.proofs.Words.{AreInstantsOf, Each, HasInstant, IsFromFirstToLast, IsInRange, IsNeverShown, IsRelocal, IsShownBetween, IsShownOnce}
use Rattle.zoned.proofs.Words.{IsWallAnswer, Law, LocalResult, Meaning, None, Option, Reading, ShowsByOffset, Some, SomeIff, Zoned, all_or_none, arith, inr}
use Rattle.zoned.proofs.Words.{instant_of, ints, map_of, sym, ℤ, ◌-ℤ◌, ◌∙◌, ◌≡◌, ◌≢◌, ◌⊎◌}

-- the second u shows l, and is s
abbrev pub IsSecond : (ℤ → ℤ) → ℤ → ℤ → ℤ → Type 0
IsSecond off l u s = ShowsByOffset off l u (l -ℤ s) × (s ≡ u)

-- a second that shows l and is out of range
abbrev pub ShowsOutside : (ℤ → ℤ) → ℤ → Type 0
ShowsOutside off l = (u : ℤ) × (k : ℤ) × ShowsByOffset off l u k × (IsInRange u → ⊥)

second_of : (off : ℤ → ℤ) (l u k : ℤ) → ShowsByOffset off l u k → l -ℤ k ≡ u
second_of off l u k shows = let shown = shows.shown in grind (arith, ints)

at_second : (off : ℤ → ℤ) (l u k s : ℤ) → ShowsByOffset off l u k → s ≡ l -ℤ k → IsSecond off l u s
at_second off l u k s shows is = let offset : k ≡ l -ℤ s = omega (arith, ints, is) in grind (arith, ints)

once_second : (off : ℤ → ℤ) (l k s : ℤ) → IsShownOnce (ShowsByOffset off l) k → s ≡ l -ℤ k → IsShownOnce (IsSecond off l) s
once_second off l k s h is = record { second = h.second; shown = at_second off l h.second k s h.shown is; only = grind arith }

between_seconds : (off : ℤ → ℤ) (l j k s t : ℤ) → IsShownBetween (ShowsByOffset off l) j k → s ≡ l -ℤ j → t ≡ l -ℤ k → IsShownBetween (IsSecond off l) s t
between_seconds off l j k s t h is also = record {
  first = h.first;
  last = h.last;
  several = h.several;
  at_first = at_second off l h.first j s h.at_first is;
  at_last = at_second off l h.last k t h.at_last also;
  not_before = λ u c there. h.not_before u (l -ℤ c) there.0;
  not_after = λ u c there. h.not_after u (l -ℤ c) there.0;
}

outside : (off : ℤ → ℤ) (l u k : ℤ) → ShowsByOffset off l u k → (IsInRange (l -ℤ k) → ⊥) → ShowsOutside off l
outside off l u k shows out = (u, k, shows, λ inside. grind arith)

-- what is shown of the instants, if there are some and if there aren't any
abbrev pub AreAllSeconds : {O : Type 0} → (ℤ → ℤ) → ℤ → LocalResult (Zoned O) → Type 0
AreAllSeconds off l none = IsNeverShown (ShowsByOffset off l) ⊎ ShowsOutside off l
AreAllSeconds off l (Single d) = IsShownOnce (IsSecond off l) d.utc.s
AreAllSeconds off l (Ambiguous d e) = IsShownBetween (IsSecond off l) d.utc.s e.utc.s

one_of : {O : Type 0} (seconds : O → ℤ) (off : ℤ → ℤ) (l : Reading) (o : O) (d : Option (Zoned O))
    → IsShownOnce (ShowsByOffset off l.s) (seconds o) → SomeIff d (HasInstant seconds l o) (instant_of seconds l o)
    → AreAllSeconds off l.s (all_or_none (Single d))
one_of seconds off l o d h is = grind (arith, once_second, outside)

two_of : {O : Type 0} (seconds : O → ℤ) (off : ℤ → ℤ) (l : Reading) (o p : O) (d e : Option (Zoned O))
    → IsShownBetween (ShowsByOffset off l.s) (seconds o) (seconds p) → SomeIff d (HasInstant seconds l o) (instant_of seconds l o)
    → SomeIff e (HasInstant seconds l p) (instant_of seconds l p) → AreAllSeconds off l.s (all_or_none (Ambiguous d e))
two_of seconds off l o p (Some d) (Some e) h is also = grind (arith, between_seconds)
two_of seconds off l o p (Some d) None h is also = inr (outside off l.s h.last (seconds p) h.at_last also)
two_of seconds off l o p None e h is also = inr (outside off l.s h.first (seconds o) h.at_first is)

all_of : {O : Type 0} {m : Meaning O} (law : Law m) (l : Reading) (offsets : LocalResult O) (answer : LocalResult (Zoned O))
    → IsWallAnswer (ShowsByOffset law.off l.s) (map_of m.seconds offsets) → AreInstantsOf m.seconds l offsets answer → AreAllSeconds law.off l.s answer
all_of law l offsets answer wall h = grind (arith, one_of, two_of)

pub all_seconds : {O : Type 0} {m : Meaning O} (law : Law m) (l : Reading) (answer : LocalResult (Zoned O)) → IsRelocal law l answer
    → AreAllSeconds law.off l.s answer
all_seconds law l answer h = all_of law l h.offsets answer h.wall.wall h.instants

-- of values that show instants
pub some_shown : {T O : Type 0} (show : T → Zoned O) (off : ℤ → ℤ) (l : ℤ) (a : LocalResult T)
    → AreAllSeconds off l (map_of show a) → a ≢ none → IsWallAnswer (IsSecond off l) (map_of (λ t. (show t).utc.s) a)
some_shown show off l a h some = grind arith

pub none_shown : {T O : Type 0} (show : T → Zoned O) (off : ℤ → ℤ) (l : ℤ) (a : LocalResult T)
    → AreAllSeconds off l (map_of show a) → a ≡ none → IsNeverShown (ShowsByOffset off l) ⊎ ShowsOutside off l
none_shown show off l a h is = grind arith

-- a second that shows l lies among them
pub within_shown : {T O : Type 0} (show : T → Zoned O) (off : ℤ → ℤ) (l u k : ℤ) → ShowsByOffset off l u k → (a : LocalResult T)
    → AreAllSeconds off l (map_of show a) → IsFromFirstToLast u (map_of (λ t. (show t).utc.s) a)
within_shown show off l u k shows none h = tt
within_shown show off l u k shows (Single t) h = h.only u u (at_second off l u k u shows (grind arith)) ∙ sym h.shown.1
within_shown show off l u k shows (Ambiguous t s) h = grind (arith, ints, at_second off l u k u shows (sym (second_of off l u k shows)))

-- what holds of each value seen as another
pub each_seen : {T Z : Type 0} (f : T → Z) (P : Z → Type 0) (Q : T → Type 0) (a : LocalResult T)
    → ((t : T) → P (f t) → Q t) → Each P (map_of f a) → Each Q a
each_seen f P Q a so h = grind arith
