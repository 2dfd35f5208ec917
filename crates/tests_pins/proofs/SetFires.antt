-- Fires of plans in zones whose clocks are set once.
use Rattle.tests_pins.proofs.Words.{AreFires, AreSetAt, IsFire, IsFirstToReach, IsReachedAt, IsZoneSecond, List, ap, arith, by_lt_z, floors, ints, pos, refl}
use Rattle.tests_pins.proofs.Words.{subst, sym, twice_daily, ℤ, [], neg_ℤ, ◌+ℤ◌, ◌-ℤ◌, ◌<ℤ◌, ◌∙◌, ◌∷◌, ◌≡◌, ◌≤ℤ◌, ◌⊎◌, inl, inr}

-- clocks that are set back have shown no later local time than at the second before
pub in_fold : (off : ℤ → ℤ) (at k m t : ℤ) → AreSetAt off at k m → IsZoneSecond (at -ℤ pos 1) → at ≤ℤ t → (t +ℤ m) <ℤ (at +ℤ k)
    → IsReachedAt off t (at -ℤ pos 1 +ℤ k)
in_fold off at k m t set inside late back = record {
  at = at -ℤ pos 1;
  in_zone = inside;
  not_after = omega (arith, ints);
  shown = let is = set.before (at -ℤ pos 1) (omega (arith, ints)) in omega (arith, ints);
  last = λ u _ until. by_lt_z u at (λ less. let is = set.before u less in omega (arith, ints)) (λ from. let is = set.from u from in omega (arith, ints));
}

pub only_in_fold : (off : ℤ → ℤ) (at k m t l : ℤ) → AreSetAt off at k m → IsZoneSecond (at -ℤ pos 1) → at ≤ℤ t → (t +ℤ m) <ℤ (at +ℤ k)
    → IsReachedAt off t l → l ≡ at -ℤ pos 1 +ℤ k
only_in_fold off at k m t l set inside late back h =
    let is = set.before (at -ℤ pos 1) (omega (arith, ints)) in
    let most = h.last (at -ℤ pos 1) inside (omega (arith, ints)) in let shown = h.shown in let until = h.not_after in
    by_lt_z h.at at (λ less. let same = set.before h.at less in omega (arith, ints)) (λ from. let same = set.from h.at from in omega (arith, ints))

-- the first second to reach a local time: it shows that local time, unless it is the one at which clocks are set
pub before_set : (off : ℤ → ℤ) (at k m l u : ℤ) → AreSetAt off at k m → IsZoneSecond u → u <ℤ at → (u +ℤ k) ≡ l → IsFirstToReach off l u
before_set off at k m l u set inside early shown = record {
  reached = record { in_zone = inside; reached = let is = set.before u early in omega (arith, ints) };
  first = λ v h. by_lt_z v u (λ less. let is = set.before v (omega (arith, ints)) in let past = h.reached in absurd (omega (arith, ints))) (λ not. not);
}

pub from_set : (off : ℤ → ℤ) (at k m l u : ℤ) → AreSetAt off at k m → IsZoneSecond u → at ≤ℤ u → l ≤ℤ (u +ℤ m) → (at -ℤ pos 1 +ℤ k) <ℤ l
    → ((u -ℤ pos 1 +ℤ m) <ℤ l) ⊎ (u ≡ at) → IsFirstToReach off l u
from_set off at k m l u set inside late reached more least = record {
  reached = record { in_zone = inside; reached = let is = set.from u late in omega (arith, ints) };
  first = λ v h. let past = h.reached in by_lt_z v u
      (λ less. by_lt_z v at (λ early. let is = set.before v early in absurd (omega (arith, ints)))
      (λ from. let is = set.from v from in absurd (elim least [ inl one ↦ omega (arith, ints) | inr same ↦ omega (arith, ints) ])))
      (λ not. not);
}

pub shown_before : (off : ℤ → ℤ) (at k m l v : ℤ) → AreSetAt off at k m → IsZoneSecond (v -ℤ pos 1) → v <ℤ at → IsFirstToReach off l v → (v +ℤ k) ≡ l
shown_before off at k m l v set inside early h =
    let now = set.before v early in let before = set.before (v -ℤ pos 1) (omega (arith, ints)) in let there = h.reached.reached in
    by_lt_z (v -ℤ pos 1 +ℤ k) l (λ less. omega (arith, ints))
    (λ not. let least = h.first (v -ℤ pos 1) (record { in_zone = inside; reached = omega (arith, ints) }) in absurd (omega (arith, ints)))

pub shown_after : (off : ℤ → ℤ) (at k m l v : ℤ) → AreSetAt off at k m → IsZoneSecond (v -ℤ pos 1) → IsZoneSecond (at -ℤ pos 1) → at <ℤ v
    → IsFirstToReach off l v → ((v +ℤ m) ≡ l) × ((at -ℤ pos 1 +ℤ k) <ℤ l)
shown_after off at k m l v set inside inside_at late h =
    let now = set.from v (omega (arith, ints)) in let before = set.from (v -ℤ pos 1) (omega (arith, ints)) in let there = h.reached.reached in
    let last = set.before (at -ℤ pos 1) (omega (arith, ints)) in (
      by_lt_z (v -ℤ pos 1 +ℤ m) l (λ less. omega (arith, ints))
          (λ not. let least = h.first (v -ℤ pos 1) (record { in_zone = inside; reached = omega (arith, ints) }) in absurd (omega (arith, ints))),
      by_lt_z (at -ℤ pos 1 +ℤ k) l (λ less. less)
          (λ not. let least = h.first (at -ℤ pos 1) (record { in_zone = inside_at; reached = omega (arith, ints) }) in absurd (omega (arith, ints))),
    )

-- the fires of a plan are one list
pub one_list : (off : ℤ → ℤ) (plan : ℤ → Type 0) (t until : ℤ) (us vs : List ℤ) → AreFires off plan t until us → AreFires off plan t until vs → us ≡ vs
one_list off plan t until [] [] h k = refl
one_list off plan t until [] (v ∷ vs) h k = absurd (h v k.0.fires k.0.after k.1)
one_list off plan t until (u ∷ us) [] h k = absurd (k u h.0.fires h.0.after h.1)
one_list off plan t until (u ∷ us) (v ∷ vs) h k =
    let less = h.0.none_skipped v k.0.fires k.0.after in let more = k.0.none_skipped u h.0.fires h.0.after in
    let same : v ≡ u = omega (arith, ints) in
    ap (λ (rest : List ℤ). u ∷ rest) (one_list off plan u until us vs h.2 (subst (λ (w : ℤ). AreFires off plan w until vs) same k.2))
    ∙ ap (λ (w : ℤ). w ∷ vs) (sym same)

-- New York in March 2021
abbrev pub InSpring : (ℤ → ℤ) → Type 0
InSpring off = AreSetAt off (pos 1_615_705_200) (neg_ℤ (pos 18_000)) (neg_ℤ (pos 14_400))

-- when clocks are set, and at 02:15 and 02:45 of the next day
abbrev pub AreThree : ℤ → Type 0
AreThree v = (v ≡ pos 1_615_705_200) ⊎ ((v ≡ pos 1_615_788_900) ⊎ (v ≡ pos 1_615_790_700))

pub fires_in_spring : (off : ℤ → ℤ) (v : ℤ) → InSpring off → IsFire off (twice_daily 8_100 9_900) v → pos 1_615_698_000 <ℤ v → v ≤ℤ pos 1_615_790_700
    → AreThree v
fires_in_spring off v set fire after until =
    let at : ℤ = pos 1_615_705_200 in let k : ℤ = neg_ℤ (pos 18_000) in let m : ℤ = neg_ℤ (pos 14_400) in
    let inside : IsZoneSecond (v -ℤ pos 1) = (omega (arith, ints), omega (arith, ints)) in let l = fire.local in let planned = fire.planned in
    by_lt_z v at
    (λ early. let is = shown_before off at k m l v set inside early fire.first in
    absurd (elim planned [ inl one ↦ omega (arith, ints, floors) | inr other ↦ omega (arith, ints, floors) ]))
    (λ from. by_lt_z at v
    (λ late. let is = (shown_after off at k m l v set inside (omega (arith, ints), omega (arith, ints)) late fire.first).0 in
    inr (elim planned [ inl one ↦ inl (omega (arith, ints, floors)) | inr other ↦ inr (omega (arith, ints, floors)) ]))
    (λ not. inl (omega (arith, ints))))
