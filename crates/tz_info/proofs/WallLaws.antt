-- A local time has an answer, and one only, with both sides of its gap too, and one count of the transitions in its window; what follows from an answer.
use Rattle.tz_info.proofs.{
  AnswerLaws.{after_answer, same_answer},
  ListFaults.{both_known, equal_known},
  Words.{AreShown, AreTypesAround, Around, Change, HasGap, IsAmongShown, IsRuleOrNone, IsValid, IsWallAnswer, IsWindowCount, LocalResult, LocalType, Shows},
  Words.{TypeAt, Zone, by_lt_z, inl, inr, joined, linear, neg_ℤ, one_around, one_wall_answer, pos, subst, suc, zero, ℕ, ℤ, ⊎_elim, ◌+ℤ◌, ◌-ℤ◌, ◌<ℤ◌, ◌≡◌, ◌≤ℤ◌},
  Words.◌⊎◌,
  ZoneLaws.{fits_or_not, type_decided, type_not_refused, type_once},
}
use Rattle.tz_info.specs.Around.{Skips}

-- a second shows the local time by one type
shown_once : (z : Zone) (local u : ℤ) (s t : LocalType) → Shows (TypeAt z) local u s → Shows (TypeAt z) local u t → s ≡ t
shown_once z _ u s t a b = type_once z u s t a.type b.type

pub one_wall_clock : (z : Zone) (local : ℤ) (a b : LocalResult LocalType) → IsWallAnswer (Shows (TypeAt z) local) a
    → IsWallAnswer (Shows (TypeAt z) local) b → a ≡ b
one_wall_clock z local = one_wall_answer (Shows (TypeAt z) local) (shown_once z _)

there : (z : Zone) (local u : ℤ) (t : LocalType) → Shows (TypeAt z) local u t → Shows (TypeAt z) local (local -ℤ t.offset) t
there z local u t s = let e : u ≡ local -ℤ t.offset = omega linear in rw e at s

pub are_shown : (z : Zone) (local : ℤ) (answer : LocalResult LocalType) → IsWallAnswer (Shows (TypeAt z) local) answer → AreShown (TypeAt z) local answer
are_shown z local answer h = grind (linear, there)

pub is_among_shown : (z : Zone) (local u : ℤ) (t : LocalType) (answer : LocalResult LocalType) → Shows (TypeAt z) local u t
    → IsWallAnswer (Shows (TypeAt z) local) answer → IsAmongShown local u answer
is_among_shown z local u t answer s h = grind linear

-- ---- gaps
one_gap : (z : Zone) (l : ℤ) (g h : Change) → HasGap (TypeAt z) l g.before g.after g.at → HasGap (TypeAt z) l h.before h.after h.at → g ≡ h
one_gap z l g h a b =
    let less = a.least h.at (grind linear) in
    let more = b.least g.at (grind linear) in
    let same : g.at ≡ h.at = omega linear in
    let before = type_once z _ _ _ (subst (λ u. TypeAt z (u -ℤ pos 1) g.before) same a.earlier) b.earlier in
    let after = type_once z _ _ _ (subst (λ u. TypeAt z u g.after) same a.here) b.here in λ i. record { before = before i; after = after i; at = same i }

pub one_answer_around : (z : Zone) (l : ℤ) (a b : Around LocalType Change) → AreTypesAround (TypeAt z) l a → AreTypesAround (TypeAt z) l b → a ≡ b
one_answer_around z l = one_around (Shows (TypeAt z) l) (Skips (TypeAt z) l) (shown_once z l) (λ g gap. gap.never) (one_gap z l)

-- ---- windows
pub window_count_once : (z : Zone) (local : ℤ) (j k : ℕ) → IsWindowCount z local j → IsWindowCount z local k → j ≡ k
window_count_once z local j k a b =
    let g : a.window.greatest ≡ b.window.greatest = grind linear in
    let l : a.window.least ≡ b.window.least = grind linear in cc

-- ---- each wall clock has an answer
-- each second shows a type, or shows none
abbrev IsDecided : (ℤ → LocalType → Type 0) → Type 0
IsDecided p = (u : ℤ) → ((t : LocalType) × p u t) ⊎ ((t : LocalType) → p u t → ⊥)

-- the seconds before an end
abbrev Before : (ℤ → LocalType → Type 0) → ℤ → ℤ → LocalType → Type 0
Before p end u t = p u t × (u <ℤ end)

-- where p takes no second before the start, those before each later end have an answer
answer_before : (p : ℤ → LocalType → Type 0) → IsDecided p → (start : ℤ) → ((u : ℤ) (t : LocalType) → p u t → start ≤ℤ u) → (n : ℕ)
    → (answer : LocalResult LocalType) × IsWallAnswer (Before p (start +ℤ pos n)) answer
answer_before p decided start none zero = grind (linear, none)
answer_before p decided start none (suc n) =
    let earlier = answer_before p decided start none n in
    let last = start +ℤ pos n in
    let end = start +ℤ pos (suc n) in
    let old : (u : ℤ) (t : LocalType) → Before p last u t → Before p end u t = λ u t h. (h.0, omega (linear, h.1)) in
    let only : (u : ℤ) (t : LocalType) → Before p end u t → Before p last u t ⊎ (u ≡ last) = λ u t h. by_lt_z u last
    (λ less. inl (h.0, less)) (λ more. inr (omega (linear, h.1, more))) in
    ⊎_elim (λ found. (joined earlier.0 _, after_answer _ _ _ _ _ old only (found.1, omega linear) (λ u f h. h.1) earlier.1))
    (λ missing. (earlier.0, same_answer _ _ _ old (λ u t h. ⊎_elim (λ i. i) (λ e. absurd (missing t (rw e at h.0))) (only u t h)) earlier.1)) (decided last)

-- whether a second shows the local time
shown_or_not : (z : Zone) (local : ℤ) → IsValid z → IsRuleOrNone z.rule → IsDecided (Shows (TypeAt z) local)
shown_or_not z local valid rule u = ⊎_elim
    (λ found. ⊎_elim (λ shown. inl (found.0, grind linear)) (λ other. inr (λ t h. other (h.fits, rw (type_once z u t _ h.type found.1) at h.shown)))
    (both_known (fits_or_not u) (equal_known (u +ℤ found.0.offset) local)))
    (λ refused. inr (λ t h. type_not_refused z u t h.type refused)) (type_decided z u valid rule)

pub wall_decided : (z : Zone) (local : ℤ) → IsValid z → IsRuleOrNone z.rule → (types : LocalResult LocalType) × IsWallAnswer (Shows (TypeAt z) local) types
wall_decided z local valid rule =
    let before = answer_before _ (shown_or_not z local valid rule) (neg_ℤ (pos 9_223_372_036_854_775_808)) (λ u t h. omega linear)
    18_446_744_073_709_551_616 in
    (_, same_answer _ _ _ (λ u t h. h.0) (λ u t h. (h, omega linear)) before.1)
