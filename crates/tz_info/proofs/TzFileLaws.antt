-- The laws of a whole file, and what they say of a reader: a file is a zone's or has one first fault, which is at one place.
use Rattle.tz_base.specs.{
  Grammar.{HasFault, from_fault},
  declared.error.{Error.TheVariants.{InvalidTzFile, OutOfMemory}, Expected.TheVariants.{TZifAtFrontOfHeader}},
}
use Rattle.tz_info.proofs.{
  ListFaults.{has_list_fault, list_fault_low, list_fault_once, list_fault_or_valid},
  Words.{Err, Error, FilePieces, HasPieces, IfErr, IfOk, In_file, IsErrAnd, IsFaultAt, IsFileFault, IsOutOfMemory, IsTzFile, IsValid, IsZoneFault, List},
  Words.{ListFault, MatchResult, No_memory, Not_spelled, Not_valid, Ok, Result, Spells, TimeZone, Zone, [], ap, apart, arith, below_more, drop, drop_front},
  Words.{IsUtf8-from_is_utf8, either, error_number, false_unless, fault_low as low, fault_once as one_fault, file, inl, inr, is_utf8-from_IsUtf8, lawful},
  Words.{length, length-append, length-take, linear, read, refl, sym},
  Words.{take, take-append-drop, value_once, ℕ, ℤ, ◌++◌, ◌+◌, ◌-◌, ◌<ℤ◌, ◌∙◌, ◌≡◌, ◌≤◌, ◌⊎◌},
}
use Rattle.tz_file.proofs.FilePieceLaws.{file_ends, has_pieces, each_keeps}
use Rattle.tz_info.specs.{
  FilePlaces.{At_index, At_leap, At_rule, At_time, HoldsOfNone, In_lists, In_spelling, IsFilePlace, IsFirstBelow, IsListPlace, IsNotLater},
  Footers.{optional_footer},
  TzFiles.{contents, tz_file},
}
use Rattle.tz_file.specs.{FileContents.{indicators, pair_at, time_at, type_at}, FileHeaders.{HasOtherMagic, header, tzif}}

-- ---- what pieces say takes no bytes
zone_ends : (bytes : List ℕ) (z : Zone) (rest : List ℕ) → Spells tz_file bytes z rest → rest ≡ []
unfolding tz_file contents indicators type_at pair_at optional_footer
zone_ends bytes z rest (p, after, h, (types, a, t, (_, b, (_, c, i, (_, d)), (r, e, k, (_, same))))) =
    let ends : b ≡ e = grind linear in
    sym (each_keeps (type_at p) (λ k bytes x rest h. h.2) _ after types a t ∙ each_keeps (pair_at p) (λ k bytes x rest h. h.2) _ a _ c i ∙ d
    ∙ ends ∙ same) ∙ (file_ends bytes p after h).5

-- no bytes spell two zones, or have two pieces
pub one_zone : (bytes : List ℕ) (y z : Zone) → IsTzFile bytes y → IsTzFile bytes z → y ≡ z
one_zone bytes y z f g = ap (λ (p : Zone × List ℕ). p.0) (value_once (lawful tz_file bytes) (y, []) (z, []) f g)

pub one_pieces : (bytes : List ℕ) (p q : FilePieces) → HasPieces bytes p → HasPieces bytes q → p ≡ q
one_pieces bytes p q f g = ap (λ (p : FilePieces × List ℕ). p.0) (value_once (lawful file bytes) (p, []) (q, []) f g)

pub file_pieces : (bytes : List ℕ) (z : Zone) → IsTzFile bytes z → (p : FilePieces) × HasPieces bytes p
unfolding tz_file
file_pieces bytes z (p, after, h, k) = (p, rw (file_ends bytes p after h).5 at h)

-- ---- the first fault
spelled_apart : (bytes : List ℕ) (z : Zone) (e : Error) → IsTzFile bytes z → HasFault tz_file bytes e → ⊥
spelled_apart bytes z = apart (lawful tz_file bytes) (z, [])

pub fault_once : (bytes : List ℕ) (d e : Error) → IsFileFault bytes d → IsFileFault bytes e → d ≡ e
fault_once bytes d e (Not_spelled _ f) (Not_spelled _ g) = one_fault (lawful tz_file bytes) d e f g
fault_once bytes d e (Not_spelled _ f) (Not_valid z _ file _) = absurd (spelled_apart bytes z d file f)
fault_once bytes d e (Not_valid z _ file _) (Not_spelled _ g) = absurd (spelled_apart bytes z e file g)
fault_once bytes d e (Not_valid y _ of f) (Not_valid z _ file g) = list_fault_once z d e (rw (one_zone bytes y z of file) at f) g

pub fault_or_zone : (bytes : List ℕ) (e : Error) (z : Zone) → IsFileFault bytes e → IsTzFile bytes z → IsValid z → ⊥
fault_or_zone bytes e z fault file valid = grind (arith, spelled_apart, list_fault_or_valid, one_zone)

pub has_fault : (bytes : List ℕ) → ((z : Zone) → IsTzFile bytes z → ¬ (IsValid z)) → (e : Error) × IsFileFault bytes e
has_fault bytes none = elim (either (lawful tz_file bytes)) [
  | inl s ↦ let file : IsTzFile bytes s.0.0 = rw (zone_ends bytes s.0.0 s.0.1 s.1) at s.1 in
      (_, Not_valid s.0.0 _ file (has_list_fault s.0.0 (none s.0.0 file)).1)
  | inr f ↦ (f.0, Not_spelled f.0 f.1)
]

-- it is not running out of memory
pub fault_low : (bytes : List ℕ) (e : Error) → IsFileFault bytes e → error_number e ≤ 16
fault_low bytes e f = let spelled = low (lawful tz_file bytes) e in grind (arith, list_fault_low)

-- bytes that do not begin with the magic
magic_fault : (bytes : List ℕ) → HasOtherMagic bytes → HasFault file bytes (InvalidTzFile TZifAtFrontOfHeader)
unfolding file header tzif
magic_fault bytes h = inl (inl (inr (take 4 bytes, drop 4 bytes, (sym (take-append-drop 4 bytes), omega (arith, length-take 4 bytes, h.0)), (h.1, refl))))

-- ---- what the reader of zones answers
pub fault_at : (bytes : List ℕ) (e : Error) (left : List ℕ) → read tz_file bytes ≡ Err e → left ≡ from_fault tz_file bytes → IsFaultAt bytes e left
fault_at bytes e left fails at = let f = (lawful tz_file bytes).fails e fails in rw at (inl (Not_spelled e f, In_spelling e f))

pub pieces_fault : (bytes : List ℕ) (e : Error) (left : List ℕ) → read file bytes ≡ Err e → left ≡ from_fault file bytes → IsFaultAt bytes e left
unfolding tz_file
pieces_fault bytes e left fails at = fault_at bytes e left (rw fails refl) (rw (fails, at) refl)

-- whole pieces, and what they say
module _ (bytes : List ℕ) (p : FilePieces) (after : List ℕ) (is : read file bytes ≡ Ok (p, after)) where
  pub contents_fault : (e : Error) (left : List ℕ) → (e ≡ OutOfMemory) ⊎ ((read (contents p) after ≡ Err e) × (left ≡ from_fault (contents p) after))
      → IsFaultAt bytes e left
  unfolding tz_file
  contents_fault e left h = grind (linear, has_pieces, fault_at)

  contents_file : (z : Zone) (rest : List ℕ) → read (contents p) after ≡ Ok (z, rest) → IsTzFile bytes z
  unfolding tz_file
  contents_file z rest says =
      let s = (lawful tz_file bytes).takes (z, rest) (rw (is, says) refl) in rw (zone_ends bytes z rest s) at s

  -- whether the lists make a valid zone
  module _ (lists : Zone) (rest : List ℕ) (says : read (contents p) after ≡ Ok (lists, rest)) where
    pub lists_fault : (e : Error) (left : List ℕ) → ListFault lists e × ¬ (IsValid lists) → IsListPlace p left → IsFaultAt bytes e left
    lists_fault e left fault place = let file = contents_file lists rest says in grind (linear, Not_valid, In_lists, has_pieces)

    module _ (valid : IsValid lists) (r : Result TimeZone Error) (made : MatchResult r (λ z. z ≡ lists) (λ e. e ≡ OutOfMemory)) where
      pub made_found : IfOk r (λ z. IsTzFile bytes z × IsValid z)
      made_found = let file = contents_file lists rest says in grind arith

      pub made_fault : (left : List ℕ) → IfErr r (λ e. IsFaultAt bytes e left)
      made_fault left = let has = has_pieces bytes p after is in grind arith

-- the bytes of a reader that returned an error
module _ (bytes : List ℕ) (e : Error) (left : List ℕ) (fault : IsFaultAt bytes e left) where
  pub zone_fault : IsZoneFault bytes e
  zone_fault = elim fault [ inl f ↦ In_file e f.0 | inr m ↦ rw m.0 (No_memory m.1.0 m.1.1) ]

  -- of a file of a zone, or with a fault
  pub no_memory : (z : Zone) → IsTzFile bytes z → IsValid z → e ≡ OutOfMemory
  no_memory z file valid = grind (arith, fault_or_zone)

  pub named : (d : Error) → IsFileFault bytes d → (e ≡ d) ⊎ IsOutOfMemory e
  named d f = elim fault [ inl g ↦ inl (fault_once bytes e d g.0 f) | inr m ↦ inr (ap error_number m.0) ]

  pub memory : e ≡ OutOfMemory → (p : FilePieces) × HasPieces bytes p
  memory is = elim fault [ inl f ↦ let low = fault_low bytes e f.0 in absurd (omega (arith, ap error_number is)) | inr m ↦ m.1 ]

-- what callers are told of it
module _ (bytes : List ℕ) (r : Result TimeZone Error) (left : List ℕ) (found : IfOk r (λ z. IsTzFile bytes z × IsValid z))
    (fault : IfErr r (λ e. IsFaultAt bytes e left)) where
  pub only : (z : Zone) → IsTzFile bytes z → IsValid z → MatchResult r (λ y. y ≡ z) (λ e. e ≡ OutOfMemory)
  only z file valid = grind (arith, one_zone, no_memory)

  pub no_room : IfErr r (λ e. e ≡ OutOfMemory → (p : FilePieces) × HasPieces bytes p)
  no_room = grind (arith, memory)

  pub first : (e : Error) → IsFileFault bytes e → IsErrAnd r (λ d. (d ≡ e) ⊎ IsOutOfMemory d)
  first e f = grind (arith, fault_or_zone, named)

module _ (bytes : List ℕ) where
  pub fault_of : (r : Result TimeZone Error) (left : List ℕ) → IfErr r (λ e. IsFaultAt bytes e left) → IfErr r (λ e. IsZoneFault bytes e)
  fault_of r left fault = let f = λ (e : Error). zone_fault bytes e left in grind arith

  pub other_magic : (r : Result TimeZone Error) (left : List ℕ) → IfOk r (λ z. IsTzFile bytes z × IsValid z) → IfErr r (λ e. IsFaultAt bytes e left)
      → HasOtherMagic bytes → IsErrAnd r (λ e. e ≡ InvalidTzFile TZifAtFrontOfHeader)
  unfolding tz_file
  other_magic (Ok z) left found fault other = absurd (fault_or_zone bytes _ z (Not_spelled _ (inl (magic_fault bytes other))) found.0 found.1)
  other_magic (Err e) left found fault other = elim fault [
    | inl f ↦ fault_once bytes e _ f.0 (Not_spelled _ (inl (magic_fault bytes other)))
    | inr m ↦ absurd (apart (lawful file bytes) (m.1.0, []) _ m.1.1 (magic_fault bytes other))
  ]

-- whether the bytes of a footer are UTF-8
pub ruleset utf8_tests = (IsUtf8-from_is_utf8, is_utf8-from_IsUtf8, false_unless)

-- what a reader that reports the position needs
pub ruleset reader = (fault_or_zone, memory, named, no_memory, one_zone, zone_fault)

-- a file has a zone or one fault
pub ruleset file_faults = (fault_low, fault_once, fault_or_zone, has_fault)

-- ---- what the loops keep
pub next_later : (p : FilePieces) (k : ℕ) (here before : ℤ) → HoldsOfNone (IsNotLater p) k → here ≡ time_at p k → before ≡ time_at p (k - 1) → before <ℤ here
    → HoldsOfNone (IsNotLater p) (k + 1)
next_later p k here before none is was later = grind (linear, below_more)

-- ---- one place
first_once : (P : ℕ → Type 0) (n j k : ℕ) → IsFirstBelow P n j → IsFirstBelow P n k → j ≡ k
first_once P n j k a b = grind arith

lists_once : {p : FilePieces} {a b : List ℕ} → IsListPlace p a → IsListPlace p b → a ≡ b
lists_once (At_index j f) (At_index k g) = rw (first_once _ _ j k f g) refl
lists_once (At_index j f) (At_time _ none _) = absurd (none j f.below f.here)
lists_once (At_index j f) (At_leap _ none _ _) = absurd (none j f.below f.here)
lists_once (At_index j f) (At_rule none _ _) = absurd (none j f.below f.here)
lists_once (At_time _ none _) (At_index k g) = absurd (none k g.below g.here)
lists_once (At_time j _ f) (At_time k _ g) = rw (first_once _ _ j k f g) refl
lists_once (At_time j _ f) (At_leap _ _ t _) = absurd (t j f.below f.here)
lists_once (At_time j _ f) (At_rule _ t _) = absurd (t j f.below f.here)
lists_once (At_leap _ none _ _) (At_index k g) = absurd (none k g.below g.here)
lists_once (At_leap _ _ t _) (At_time k _ g) = absurd (t k g.below g.here)
lists_once (At_leap j _ _ f) (At_leap k _ _ g) = rw (first_once _ _ j k f g) refl
lists_once (At_leap j _ _ f) (At_rule _ _ l) = absurd (l j f.below f.here)
lists_once (At_rule none _ _) (At_index k g) = absurd (none k g.below g.here)
lists_once (At_rule _ t _) (At_time k _ g) = absurd (t k g.below g.here)
lists_once (At_rule _ _ l) (At_leap k _ _ g) = absurd (l k g.below g.here)
lists_once (At_rule _ _ _) (At_rule _ _ _) = refl

pub file_place_once : (bytes : List ℕ) (m n : ℕ) → IsFilePlace bytes m → IsFilePlace bytes n → m ≡ n
file_place_once bytes m n f g = grind (arith, spelled_apart, one_pieces, lists_once)
