-- White space at both ends of bytes.
use Rattle.std.proofs.lemmas.{Bool.{cases_Bool}, List.{Folds.list_all_at, get_or_past}}
use Rattle.std.specs.List.{prefix_len}
use Rattle.tz_base.proofs.{ForCallers.run_splits, RunLaws.all_of}
use Rattle.tz_base.specs.{Fronts.{AllOf, run_of}, Steps.TextTests.{all_decided}}
use Rattle.std.specs.{Str.{IsAsciiWhitespaceBelow, IsAsciiWhitespaceFrom, IsTrimAscii, IsTrimAsciiStart}, Char.{is_ascii_whitespace}, List.{list_all}}
use Rattle.std.specs.Prelude.{slice_index}
use Rattle.std.proofs.Common.{List, [], ap, arith, drop, false, inl, inr, length, length-append, length-take, refl, suc, take, true, zero, ℕ, ◌++◌, ◌+◌, ◌-◌}
use Rattle.std.proofs.{Common.{◌<◌, ◌∙◌, ◌∷◌, ◌≡◌, ◌≤◌}, lemmas.List.{append-nil}}
use Rattle.tz_base.specs.{Fronts.{after_run}, Trims.{trimmed, without_end}}

-- only white space, and none
abbrev pub IsSpace : List ℕ → Type 0
IsSpace bytes = AllOf is_ascii_whitespace bytes

abbrev pub HasNoSpace : List ℕ → Type 0
HasNoSpace [] = Unit {0}
HasNoSpace (b ∷ bs) = (is_ascii_whitespace b ≡ false) × HasNoSpace bs

-- ---- what is trimmed
space_all : (bytes : List ℕ) → IsSpace bytes → list_all is_ascii_whitespace bytes ≡ true
space_all [] h = refl
space_all (b ∷ bs) h = rw (h.0, space_all bs h.1) refl

end_takes : (bytes : List ℕ) → (after : List ℕ) × (bytes ≡ without_end bytes ++ after) × IsSpace after
end_takes [] = ([], refl, tt)
end_takes (b ∷ bs) = elim (cases_Bool (list_all is_ascii_whitespace (b ∷ bs))) [
  | inl e ↦ rw e (b ∷ bs, refl, all_of is_ascii_whitespace (b ∷ bs) ((all_decided is_ascii_whitespace (b ∷ bs)).0 e))
  | inr e ↦ let r = end_takes bs in rw e (r.0, ap (λ s. b ∷ s) r.1, r.2)
]

pub trim_is : (bytes : List ℕ) → (before : List ℕ) × (after : List ℕ) × (bytes ≡ before ++ (trimmed bytes ++ after)) × IsSpace before × IsSpace after
unfolding trimmed
trim_is bytes =
    let front = run_splits is_ascii_whitespace bytes in
    let (after, whole, space) = end_takes (after_run is_ascii_whitespace bytes) in
    (_, after, front.whole ∙ ap (λ s. run_of is_ascii_whitespace bytes ++ s) whole, front.each, space)

-- ---- a text without white space, between white space
space_front : (before rest : List ℕ) → IsSpace before → after_run is_ascii_whitespace (before ++ rest) ≡ after_run is_ascii_whitespace rest
space_front [] _ _ = refl
space_front (b ∷ bs) rest h = rw h.0 (space_front bs _ h.1)

end_again : (text after : List ℕ) → HasNoSpace text → IsSpace after → without_end (text ++ after) ≡ text
end_again [] [] n s = refl
end_again [] (c ∷ cs) n s = rw (space_all (c ∷ cs) s) refl
end_again (b ∷ bs) after n s = rw n.0 (ap (λ t. b ∷ t) (end_again bs after n.1 s))

pub trim_whole : (before text after : List ℕ) → IsSpace before → HasNoSpace text → IsSpace after → trimmed (before ++ (text ++ after)) ≡ text
unfolding trimmed
trim_whole before [] after s n a =
    let front : after_run is_ascii_whitespace (before ++ after) ≡ [] = space_front before after s ∙ rw append-nil at (space_front after [] a) in rw front refl
trim_whole before (b ∷ bs) after s n a =
    let front : after_run is_ascii_whitespace (before ++ (b ∷ (bs ++ after))) ≡ b ∷ (bs ++ after) = space_front before (b ∷ (bs ++ after)) s ∙ rw n.0 refl in
    rw front (end_again (b ∷ bs) after n a)

-- ---- what std's calls give
front_drop : (n : ℕ) (s : List ℕ) → n ≤ length s → IsAsciiWhitespaceBelow s n
    → (n < length s → is_ascii_whitespace (slice_index s n) ≡ false) → drop n s ≡ after_run is_ascii_whitespace s
front_drop zero [] _ _ _ = refl
front_drop zero (b ∷ bs) l w e = rw (e (omega arith))
front_drop (suc n) [] l w e = absurd (omega arith)
front_drop (suc n) (b ∷ bs) l w e = rw (w 0 (omega arith)) (front_drop n bs (omega arith) (λ i h. w (suc i) (omega arith)) (λ h. e (omega arith)))

back_take : (n : ℕ) (s : List ℕ) → n ≤ length s → IsAsciiWhitespaceFrom s n
    → ((m : ℕ) → n ≡ suc m → is_ascii_whitespace (slice_index s m) ≡ false) → take n s ≡ without_end s
back_take zero [] l w e = refl
back_take zero (b ∷ bs) l w e = rw ((all_decided is_ascii_whitespace (b ∷ bs)).1 (λ i h. w i (omega arith) h)) refl
back_take (suc n) [] l w e = absurd (omega arith)
back_take (suc n) (b ∷ bs) l w e = rw (list_all_at is_ascii_whitespace (b ∷ bs) n 0 (omega arith) (e n refl))
    (ap (λ s. b ∷ s) (back_take n bs (omega arith) (λ i h k. w (suc i) (omega arith) (omega arith)) (λ m h. e (suc m) (omega arith))))

within : (m : ℕ) (s : List ℕ) → IsAsciiWhitespaceBelow s m → m ≤ length s
within m s below = let b = get_or_past s (length s) 0 (omega arith) in grind arith

pub trimmed_is : (s r : List ℕ) → IsTrimAscii s r → r ≡ trimmed s
unfolding trimmed
trimmed_is s r t =
    let front = front_drop t.0 s (within t.0 s t.2) t.2 t.3 in
    let least = length-take (length r) (drop t.0 s) in
    let back = back_take (length r) (drop t.0 s) (grind arith) t.4 (λ m h. let k : length r - 1 ≡ m = omega arith in rw k at (t.5 (omega arith))) in cc

pub after_counted : (s r : List ℕ) → IsTrimAsciiStart s r → r ≡ after_run is_ascii_whitespace s
after_counted s r t = t.1 ∙ front_drop t.0 s (omega arith) t.3 t.4

-- ---- how much white space is in front
counted : (s : List ℕ) → prefix_len is_ascii_whitespace s + length (after_run is_ascii_whitespace s) ≡ length s
counted [] = refl
counted (b ∷ bs) = elim (cases_Bool (is_ascii_whitespace b)) [ inl e ↦ rw e (omega (arith, counted bs)) | inr e ↦ rw e (omega arith) ]

pub front_counted : (s r : List ℕ) → IsTrimAsciiStart s r → length r + prefix_len is_ascii_whitespace s ≡ length s
front_counted s r t = let same = after_counted s r t in omega (arith, counted s, ap length same)

-- the text fits after it
pub trimmed_fits : (s : List ℕ) → prefix_len is_ascii_whitespace s + length (trimmed s) ≤ length s
unfolding trimmed
trimmed_fits s = let (after, whole, _) = end_takes (after_run is_ascii_whitespace s) in
    omega (arith, counted s, ap length whole, length-append (without_end (after_run is_ascii_whitespace s)) after)
