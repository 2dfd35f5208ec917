-- The pieces of a file end it, and what its readers by places keep.
use Rattle.std.proofs.lemmas.Option.{same_Some}
use Rattle.tz_base.specs.Grammar.{At, Byte, Check, Each, Ended, Grammar, Here, Inside, Marked, Nothing, Number, Refused, Rest, Run, Then, from_fault}
use Rattle.tz_file.proofs.Words.{EndFile, Err, Error, Exact, FileCounts, FilePieces, HasCounts, HasLengths, HasPieces, List, Ok, Parts, Some, Spells, Version}
use Rattle.tz_file.proofs.Words.{[], after_first_block, ap, append-nil, append_assoc, arith, block, cases_lt, drop, drop_front, file, first_version}
use Rattle.tz_file.proofs.Words.{footer_bytes, from_times, inl, inr, ints, later_version, lawful, length, length-append, read, refl, subst, suc, sym, to_z-of_z}
use Rattle.tz_file.proofs.Words.{zero, ℕ, ◌++◌, ◌+◌, ◌<◌, ◌↔◌, ◌∙◌, ◌∷◌, ◌≡◌, ◌⊎◌}
use Rattle.tz_file.specs.{FileHeaders.{header}, declared.header.{Counts.{Counts}, Place.TheVariants.{First, Second}, Version.TheVariants.{One}}}

-- ---- what is spelled comes first, and what follows after it
front : {X : Type 0} (g : Grammar X) (bytes : List ℕ) (x : X) (rest : List ℕ) → Spells g bytes x rest → (before : List ℕ) × (bytes ≡ before ++ rest)
front (Nothing _) _ _ _ h = ([], h.1)
front (Then g f) _ x rest (y, after, h, k) =
    let a = front g _ y _ h in
    let b = front (f y) after x rest k in
    (a.0 ++ b.0, a.1 ∙ ap (λ s. a.0 ++ s) b.1 ∙ sym (append_assoc a.0 b.0 rest))
front (Marked tag g _) _ x _ (inl k) = let a = front g k.0 x _ k.2 in (tag ∷ a.0, k.1 ∙ ap (λ s. tag ∷ s) a.1)
front (Marked _ _ h) bytes x _ (inr k) = front h bytes x _ k.1
front (Ended g _) _ x _ (inl k) = front g _ x _ k.1
front (Ended _ h) _ x _ (inr k) = front h _ x _ k.1
front (Byte tag) _ _ _ h = (tag ∷ [], h)
front (Run _) _ x _ h = (x, h.whole)
front (Number _) _ _ _ h = (h.digits, h.whole)
front (Exact _) _ x _ h = (x, h.0)
front Rest bytes x rest h = (bytes, rw h.1 (sym (append-nil bytes)))
front (Refused _) _ _ _ h = absurd h
front (Check P _ _ _) _ _ _ h = ([], h.2)
front (Here f) bytes x _ h = front (f bytes) _ x _ h
front (At _ g) bytes x rest h = front g bytes x rest h
front (Inside _ _ _) _ _ _ h = ([], h.2)

-- ---- the end of a file: the block that the pieces are of, and the footer, which no byte follows
abbrev pub EndsIn : List ℕ → FilePieces → List ℕ → Type 0
EndsIn bytes p rest = (before : List ℕ) × (start : List ℕ) × (bytes ≡ before ++ start) × ((p.time_size ≡ 4) ⊎ (p.time_size ≡ 8))
    × Spells (block p.time_size p.counts) start p.parts (footer_bytes p.footer) × (rest ≡ [])

ends_after : {X : Type 0} (g : Grammar X) (bytes : List ℕ) (x : X) (after : List ℕ) (p : FilePieces) (rest : List ℕ) → Spells g bytes x after
    → EndsIn after p rest → EndsIn bytes p rest
ends_after g _ x _ _ _ h (before, start, e, size, is, none) =
    let a = front g _ x _ h in
    (a.0 ++ before, start, a.1 ∙ ap (λ s. a.0 ++ s) e ∙ sym (append_assoc a.0 before start), size, is, none)

later_ends : (bytes : List ℕ) (p : FilePieces) (rest : List ℕ) → Spells later_version bytes p rest → EndsIn bytes p rest
unfolding later_version
later_ends _ p rest (h, after, k, (_, _, m, (_, _, f, (value, e)))) =
    ends_after (header Second) _ h after p rest k (rw (value, f.0) ([], after, refl, inr refl, m, sym e ∙ f.1))

after_ends : (v : Version) (c : Counts) (b : Parts) (start bytes : List ℕ) (p : FilePieces) (rest : List ℕ) → Spells (block 4 c) start b bytes
    → Spells (after_first_block v c b) bytes p rest → EndsIn start p rest
unfolding after_first_block first_version
after_ends One _ _ start _ _ _ h (_, _, inl (none, (_, same)), (value, e)) = rw (value, ← none) ([], start, refl, inl refl, h, sym e ∙ sym same)
after_ends One _ _ _ _ _ _ _ (_, _, inr (_, never), _) = absurd never
after_ends v c b _ bytes p rest h k = ends_after (block 4 c) _ b bytes p rest h (later_ends _ p rest k)

pub file_ends : (bytes : List ℕ) (p : FilePieces) (rest : List ℕ) → Spells file bytes p rest → EndsIn bytes p rest
unfolding file
file_ends _ p rest (h, start, k, (_, _, m, n)) = ends_after (header First) _ h start p rest k (after_ends _ _ _ _ _ p rest m n)

pub has_pieces : (bytes : List ℕ) (p : FilePieces) (rest : List ℕ) → read file bytes ≡ Ok (p, rest) → HasPieces bytes p
has_pieces bytes p rest h = let s = (lawful file bytes).takes (p, rest) h in rw (file_ends _ _ _ s).5 at s

-- ---- lengths, and the parts in order
of_block : (p : FilePieces) (start rest : List ℕ) → (p.time_size ≡ 4) ⊎ (p.time_size ≡ 8) → Spells (block p.time_size p.counts) start p.parts rest
    → HasLengths p × (rest ≡ footer_bytes p.footer → start ≡ from_times p)
unfolding block
of_block p start rest size h = grind (arith, ints)

-- the last block and the footer are the end of the file
pub end_file : (bytes : List ℕ) (p : FilePieces) → HasPieces bytes p → EndFile bytes p
end_file _ p h =
    let (before, start, e, size, is, none) = file_ends _ _ _ h in
    let b = of_block p start _ size is in
    record { lengths = b.0; before = before; whole = rw (← b.1 refl) e }

-- ---- counts
-- whole pieces have one pair of counts
pub counted : (bytes : List ℕ) (p : FilePieces) (rest : List ℕ) (d c : FileCounts) → read file bytes ≡ Ok (p, rest)
    → d.transitions ≡ p.counts.transitions → d.leap_seconds ≡ p.counts.leap_seconds → (Some d ≡ Some c) ↔ HasCounts bytes c
counted bytes p rest d c is m n = (
  λ e. subst (HasCounts bytes) (same_Some d c e) (record { pieces = p; has = has_pieces bytes p rest is; transitions_are = m; leap_seconds_are = n }),
  λ k. let one = (lawful file bytes).again (k.pieces, []) k.has in grind (arith, ints),
)

-- bytes of which a piece is missing or has a fault have none
pub uncounted : (bytes : List ℕ) (e : Error) (c : FileCounts) → read file bytes ≡ Err e → HasCounts bytes c → ⊥
uncounted bytes e c is k = let whole = (lawful file bytes).again (k.pieces, []) k.has in cc

-- ---- the bytes from a part on
pub last_bytes : (bytes front rest : List ℕ) (n : ℕ) → bytes ≡ front ++ rest → n + length rest ≡ length bytes → drop n bytes ≡ rest
last_bytes bytes front rest n whole at =
    let same : length front ≡ n = grind (arith, length-append) in rw (whole, ← same) (drop_front front rest)

pub next_bytes : {bytes after : List ℕ} (x rest : List ℕ) → after ≡ drop (length x) bytes → bytes ≡ x ++ rest → after ≡ rest
next_bytes x rest is whole = is ∙ ap (drop _) whole ∙ drop_front x rest

-- ---- grammars by places
module _ {X : Type 0} (g : ℕ → Grammar X) where
  -- the first fault is that of all
  pub each_fails : (n i : ℕ) (bytes : List ℕ) (xs : List X) (after : List ℕ) (e : Error) → i < n → read (Each i g) bytes ≡ Ok (xs, after)
      → read (g i) after ≡ Err e → (read (Each n g) bytes ≡ Err e) × (from_fault (Each n g) bytes ≡ from_fault (g i) after)
  each_fails zero i bytes xs after e l p q = absurd (omega arith)
  each_fails (suc n) i bytes xs after e l p q = elim (cases_lt i n) [
    | inl h ↦ let r = each_fails n i bytes xs after e h p q in grind arith
    | inr h ↦ let same : n ≡ i = omega arith in grind arith
  ]

  -- grammars of no bytes
  pub each_keeps : ((k : ℕ) (bytes : List ℕ) (x : X) (rest : List ℕ) → Spells (g k) bytes x rest → bytes ≡ rest) → (n : ℕ) (bytes : List ℕ) (xs : List X)
      (rest : List ℕ) → Spells (Each n g) bytes xs rest → bytes ≡ rest
  each_keeps keeps zero bytes xs rest h = h.1
  each_keeps keeps (suc n) bytes xs rest (ys, mid, h, (x, after, k, (value, same))) = each_keeps keeps n bytes ys mid h ∙ keeps n mid x after k ∙ same

-- what a number in its range is read as
pub ruleset in_range = to_z-of_z
