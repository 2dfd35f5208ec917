-- If any designations have the names of the types at places that a byte can name, those that are laid have them: each text that is put in
-- has bytes of its own in any others that have the texts.
use Rattle.std.proofs.{
  Common.{Decides, length-take},
  Math.Seq.drop-append_seam,
  lemmas.{Bool.{Decides.Decides-by_and, eq-eqb}, List.{append_cancel_left, drop_more, get_or_at, take-append-drop}, Slice.Eq.{ends_is, starts_is}},
}
use Rattle.std.specs.List.{ends_with}
use Rattle.tz_base.{proofs.RunLaws.all_of, specs.LocalTypes.plain_type}
use Rattle.tz_info.proofs.Words.{Decides-eqb, cases_lt, is_not_zero, nat_eq, nil_from_length, zero}
use Rattle.tz_write.{
  proofs.Words.{[], All, HasNoZero, HasPlace, HavePlaces, IsNameOrNone, List, LocalType, None, Option, Some, ap, append-nil},
  proofs.Words.{append_assoc, arith, cond, drop, get_or, inl, inr, length, length-append, list_all, name_of, name_or_none, nat_tests, place_of},
  proofs.Words.{placed_otherwise, pos, refl, run_of, suc, sym, take, true, with_text_of, ℕ, ◌*◌, ◌++◌, ◌+◌, ◌<◌, ◌∷◌, ◌≡◌, ◌≤◌, ◌⊎◌},
  proofs.TextBytes.{names_are, no_zeros},
  specs.FileDesignations.{AreNamesIn, AreShortest, StandsAt},
  specs.Steps.LaidNames.{are_placed, before_last, begins, has_place, have_places, laid, laid_names, or_else, placed_with, text_at, with_text, with_texts},
}

-- the text at the place of a text
front_is : (text rest : List ℕ) → HasNoZero text → run_of is_not_zero (text ++ (0 ∷ rest)) ≡ text
front_is [] rest none = refl
front_is (b ∷ bs) rest none = grind (arith, nat_tests, front_is bs rest none.1)

-- ---- where a text is
begins_is : (text bytes : List ℕ) → begins text bytes ≡ true → bytes ≡ text ++ (0 ∷ drop (length text + 1) bytes)
unfolding begins
begins_is text bytes h = grind (arith, nat_tests, starts_is, drop_more)

begins_there : (text bytes : List ℕ) → place_of text bytes < length bytes → begins text (drop (place_of text bytes) bytes) ≡ true
begins_there text [] h = grind arith
begins_there text (b ∷ bs) h = grind (arith, nat_tests, begins_there text bs)

-- a text and its 0 byte are in the bytes
pub record Stands (bytes text : List ℕ) : Type 0 where
  pub before : List ℕ
  pub after : List ℕ
  pub whole : bytes ≡ before ++ (text ++ (0 ∷ after))

-- the text is in the designations, or it isn't
abbrev In : List ℕ → List ℕ → Type 0
In bytes text = place_of text bytes < length bytes

abbrev Out : List ℕ → List ℕ → Type 0
Out bytes text = length bytes ≤ place_of text bytes

-- the text at its first place
abbrev in_stands : (bytes text : List ℕ) → In bytes text → Stands bytes text
in_stands bytes text l = let at = place_of text bytes in record {
  before = take at bytes;
  after = drop (length text + 1) (drop at bytes);
  whole = cc (take-append-drop at bytes, begins_is text (drop at bytes) (begins_there text bytes l));
}

pub has_text : (text designations : List ℕ) → HasNoZero text → place_of text designations < length designations
    → StandsAt designations (place_of text designations) text
has_text text designations none l = let s = in_stands designations text l in grind (arith, length-take)

pub no_zero : (name : Option (List ℕ)) → IsNameOrNone name → HasNoZero (name_or_none name)
no_zero name h = grind (arith, no_zeros, names_are, all_of)

-- the text is the end of that one
pub record Ends (whole text : List ℕ) : Type 0 where
  pub front : List ℕ
  pub is : whole ≡ front ++ text

-- how y, between c and d, lies to x, between b and a
abbrev Meeting : (b x a c y d : List ℕ) → Type 0
Meeting b x a c y d =
    ((e : List ℕ) × (b ≡ c ++ (y ++ (0 ∷ e)))) ⊎ ((e : List ℕ) × (a ≡ e ++ (y ++ (0 ∷ d))))
    ⊎ ((m : List ℕ) × (x ≡ m ++ y) × (a ≡ d)) ⊎ ((m : List ℕ) × (y ≡ m ++ x) × (a ≡ d))

-- x is at the front
from_front : (x a c y d : List ℕ) → HasNoZero x → HasNoZero y → x ++ (0 ∷ a) ≡ c ++ (y ++ (0 ∷ d))
    → ((e : List ℕ) × (c ≡ x ++ (0 ∷ e)) × (a ≡ e ++ (y ++ (0 ∷ d)))) ⊎ ((m : List ℕ) × (x ≡ m ++ y) × (a ≡ d))
from_front x a [] y d n k e = let p = front_is x a n in let q = front_is y d k in inr ([], grind arith, grind (arith, append_cancel_left))
from_front [] a (c ∷ cs) y d n k e = inl (cs, cc, cc)
from_front (x ∷ xs) a (c ∷ cs) y d n k e = elim (from_front xs a cs y d n.1 k (cc)) [ inl (f, h, l) ↦ inl (f, cc, l) | inr (m, h, l) ↦ inr (x ∷ m, cc, l) ]

meet : (b x a c y d : List ℕ) → HasNoZero x → HasNoZero y → b ++ (x ++ (0 ∷ a)) ≡ c ++ (y ++ (0 ∷ d)) → Meeting b x a c y d
meet [] x a c y d n k e = grind (arith, from_front x a c y d n k e)
meet (p ∷ b) x a [] y d n k e = grind (arith, from_front y d (p ∷ b) x a k n (sym e))
meet (p ∷ b) x a (q ∷ c) y d n k e = grind (arith, meet b x a c y d n k (cc))

-- ---- the end of the last text
ends_decided : (last text : List ℕ) → Decides (ends_with nat_eq last text) (Ends last text)
ends_decided last text = let e = ends_is {E = nat_eq} Decides-eqb last text _ refl in grind arith

-- ---- the place of a text
begins_again : (text rest : List ℕ) → begins text (text ++ (0 ∷ rest)) ≡ true
unfolding begins
begins_again text rest =
    let starts = (starts_is {E = nat_eq} Decides-eqb (text ++ (0 ∷ rest)) text _ refl).1 (0 ∷ rest) refl in
    grind (arith, nat_tests, length-append, get_or_at)

place_after : (text front rest : List ℕ) → place_of text (front ++ (text ++ (0 ∷ rest))) ≤ length front
place_after [] [] rest = grind (arith, nat_tests, begins_again [] rest)
place_after (c ∷ cs) [] rest = grind (arith, nat_tests, begins_again (c ∷ cs) rest)
place_after text (b ∷ bs) rest = grind (arith, nat_tests, place_after text bs rest)

-- bytes put after it don't move it
place_kept : (text bytes more : List ℕ) → In bytes text → place_of text (bytes ++ more) ≤ place_of text bytes
place_kept text bytes more l = let s = in_stands bytes text l in let after = place_after text s.before (s.after ++ more) in
    grind (arith, append_assoc, length-take)

-- the text and its 0 byte are put at the end
abbrev added : List ℕ → List ℕ → List ℕ
added bytes text = bytes ++ (text ++ 0 ∷ [])

-- a text comes no later than there
stands_in : (bytes text : List ℕ) (s : Stands bytes text) → (place_of text bytes ≤ length s.before) × In bytes text
stands_in bytes text s = grind (arith, place_after, length-append)

-- the end of a text that is there
abbrev end_stands : {bytes text other : List ℕ} → Stands bytes text → Ends text other → Stands bytes other
end_stands s h = record { before = s.before ++ h.front; after = s.after; whole = grind (arith, append_assoc) }

abbrev ends_nothing : (text : List ℕ) → Ends text []
ends_nothing text = record { front = _; is = sym (append-nil text) }

-- the bytes of designations, and a text that may be put in
module _ (bytes text : List ℕ) where
  abbrev put_stands : Stands (added bytes text) text
  put_stands = record { before = bytes; after = []; whole = refl }

  put_in : (other : List ℕ) → Ends text other → In (added bytes text) other
  put_in other h = (stands_in _ other (end_stands put_stands h)).1

  kept : (other : List ℕ) → In bytes other → In (with_text bytes text) other × (place_of other (with_text bytes text) ≤ place_of other bytes)
  unfolding with_text
  kept other h = grind (arith, place_kept, length-append)

  -- a text for which there is room is put in
  put : (Out bytes text → length bytes + length text < 263) → In (with_text bytes text) text
  unfolding with_text
  put room = grind (arith, nat_tests, put_in)

-- ---- the texts of types
-- to be put in at that size
abbrev Turn : List ℕ → ℕ → LocalType → Type 0
Turn last size t = (length (name_of t) ≡ size) × (Ends last (name_of t) → ⊥)

-- what holds of designations, whatever types are put in
module _ (P : List ℕ → Type 0) (last : List ℕ) (size : ℕ) where
  by_types : (types : List LocalType) (bytes : List ℕ) → All (λ t. (d : List ℕ) → P d → P (with_text_of last size d t)) types → P bytes
      → P (with_texts last size bytes types)
  unfolding with_texts
  by_types [] bytes step h = h
  by_types (t ∷ ts) bytes step h =
      by_types ts _ (λ i d l. step (suc i) d (omega arith)) (step 0 t (omega arith) bytes h)

  keeps_all : ((d text : List ℕ) → P d → P (with_text d text)) → (types : List LocalType) (bytes : List ℕ) → P bytes
      → P (with_texts last size bytes types)
  keeps_all step types bytes h = by_types types bytes (λ i e l d k. let put = step d (name_of (get_or types i e)) k in grind arith) h

before_keeps : (P : List ℕ → Type 0) → ((d text : List ℕ) → P d → P (with_text d text)) → (last : List ℕ) (types : List LocalType)
    → P [] → P (before_last last types)
unfolding before_last
before_keeps P step last types h = let all = λ (n : ℕ). keeps_all P last n step types in grind arith

-- ---- room in other bytes
no_front : (m text : List ℕ) → length (m ++ text) ≤ length text → m ++ text ≡ text
no_front m text l = grind (arith, length-append, nil_from_length)

-- y between c and d is left when the text between b and a is cut out
module _ (last text y b a c d : List ℕ) (free : Ends last text → ⊥) (apart : Ends text y → ⊥) (small : (length y ≤ length text) ⊎ Ends last y) where
  cut : Meeting b text a c y d → Stands (b ++ a) y
  cut (inl (e, h)) = grind (arith, append_assoc)
  cut (inr (inl (e, h))) = let assoc = append_assoc b e (y ++ (0 ∷ d)) in grind arith
  cut (inr (inr (inl p))) = absurd (grind arith)
  cut (inr (inr (inr (m, h, l)))) = absurd (elim small [
    | inl s ↦ apart (record { front = []; is = cc (no_front m text (omega (arith, ap length h))) })
    | inr k ↦ free (record { front = k.front ++ m; is = cc (append_assoc k.front m text) })
  ])

-- the last text is to be `last`, and the others are bytes that have the texts
module _ (last others : List ℕ) where
  -- what is left of the others when the texts in the designations are cut out of them: the texts that are to come, of
  -- at most that size or at the end of the last one, are still there
  pub record Room (bytes : List ℕ) (size : ℕ) : Type 0 where
    pub left : List ℕ
    pub fits : length bytes + length left ≤ length others
    pub rest : (text : List ℕ) → HasNoZero text → (length text ≤ size) ⊎ Ends last text → Stands others text → Out bytes text → Stands left text

  -- a text that isn't there has room
  room_of : (bytes text : List ℕ) (size : ℕ) → Room bytes size → HasNoZero text → (length text ≤ size) ⊎ Ends last text
      → Stands others text → Out bytes text → length bytes + length text + 1 ≤ length others
  room_of bytes text size r none small stands out = grind (arith, length-append)

  -- the text of the type has no 0 byte, and is in the others if it is to be put in
  pub record Given (t : LocalType) : Type 0 where
    pub none : HasNoZero (name_of t)
    pub stands : (Ends last (name_of t) → ⊥) → Stands others (name_of t)

  put_room : (bytes : List ℕ) (size : ℕ) (t : LocalType) → Given t → Room bytes size → Turn last size t → Out bytes (name_of t)
      → Room (added bytes (name_of t)) size
  put_room bytes size t g r turn out =
      let text = name_of t in let s = r.rest _ g.none (inl (omega arith)) (g.stands turn.1) out in record {
        left = s.before ++ s.after;
        fits = grind (arith, length-append);
        rest = λ y nothing small there still.
            let q = r.rest y nothing small there (grind (arith, place_kept, length-append)) in
            cut last text y _ _ _ _ turn.1 (grind (arith, put_in)) (rw (← turn.0) at small)
            (meet s.before _ s.after q.before _ q.after g.none nothing (cc));
      }

  type_room : (bytes : List ℕ) (size : ℕ) (t : LocalType) → Given t → Room bytes size → Room (with_text_of last size bytes t) size
  unfolding with_text
  type_room bytes size t g r = let put = put_room bytes size t g r in grind (arith, nat_tests, ends_decided)

  put_all : (size : ℕ) (types : List LocalType) (bytes : List ℕ) → length others ≤ 263 → All Given types → Room bytes size
      → All (λ t. Turn last size t → In (with_texts last size bytes types) (name_of t)) types
  unfolding with_texts
  put_all size [] bytes short g r i d l turn = grind arith
  put_all size (t ∷ ts) bytes short g r (suc i) d l turn =
      put_all size ts _ short (λ k e m. g (suc k) e (omega arith)) (type_room _ _ t (g 0 t (omega arith)) r) i d (omega arith) turn
  put_all size (t ∷ ts) bytes short g r zero d l turn =
      let given = g 0 t (omega arith) in let out = room_of bytes (name_of t) size r given.none (inl (omega arith)) (given.stands turn.1) in
      keeps_all (λ d. In d (name_of t)) _ _ (λ d other h. (kept d other _ h).0) ts (with_text_of last size bytes t) (grind (arith, put, ends_decided, eq-eqb))

  -- ---- in front of the last
  -- the others have room for the texts of that size, and the longer ones have been put in
  record Passed (types : List LocalType) (size : ℕ) (bytes : List ℕ) : Type 0 where
    room : Room bytes size
    inside : length others ≤ 263
        → All (λ t. size ≤ length (name_of t) → length (name_of t) ≤ 7 → (Ends last (name_of t) → ⊥) → In bytes (name_of t)) types

  -- the others have the texts of all these types
  module _ (types : List LocalType) (g : All Given types) where
    pass : (size : ℕ) (bytes : List ℕ) → Passed types (suc size) bytes → Passed types size (with_texts last size bytes types)
    pass size bytes p = let wider = p.room in let r : Room bytes size = grind arith in record {
      room = by_types (λ d. Room d size) _ _ types bytes (λ i e l d. type_room d size _ (g i e l)) r;
      inside = λ short i e l low high free.
          let all = put_all size types bytes short g r i e l in
          let keep = keeps_all (λ d. In d (name_of (get_or types i e))) last size (λ d other h. (kept d other _ h).0) types bytes in grind (arith, cases_lt);
    }

    before_passed : Passed types 3 (before_last last types)
    unfolding before_last
    before_passed = let step = pass in grind arith

-- ---- designations that have the names
module _ (others : List ℕ) where
  record Served (t : LocalType) : Type 0 where
    size : (length (name_of t) ≤ 7) × ((length (name_of t) ≡ 0) ⊎ (3 ≤ length (name_of t)))
    stands : StandsAt others (place_of (name_of t) others) (name_of t)
    low : place_of (name_of t) others < 256

  -- the byte after the text, and of two texts before one 0 byte the longer
  key_in : LocalType → ℕ
  key_in t = 8 * (place_of (name_of t) others + length (name_of t)) + length (name_of t)

  -- the place of a type whose key is the greatest
  greatest : (d t : LocalType) (ts : List LocalType)
      → (place : ℕ) × (place < length (t ∷ ts)) × All (λ u. key_in u ≤ key_in (get_or (t ∷ ts) place d)) (t ∷ ts)
  greatest d t [] = (0, omega arith, grind arith)
  greatest d t (u ∷ us) =
      let (place, inside, above) = greatest d u us in let m = get_or (u ∷ us) place d in elim (cases_lt (key_in m) (key_in t)) [
        | inl l ↦ (0, omega arith, grind arith)
        | inr k ↦ (suc place, omega arith, grind arith)
      ]

ends_or_not : (last text : List ℕ) → Ends last text ⊎ (¬ (Ends last text))
ends_or_not last text = let e = ends_decided last text in grind (arith, nat_tests)

laid_short : (last others : List ℕ) (types : List LocalType) → HasNoZero last → Stands others last → All (Given last others) types
    → length (laid last types) ≤ length others
unfolding laid with_text
laid_short last others types none stands given =
    let r = before_passed last others types given in
    grind (arith, nat_tests, length-append, room_of)

-- m is one of the types that the others serve: the one whose name is laid last
module _ (others : List ℕ) (m : LocalType) (sm : Served others m) where
  -- the text is in front of the last one, or ends with it
  abbrev Where : LocalType → Type 0
  Where t = Stands sm.stands.before (name_of t) ⊎ (Ends (name_of m) (name_of t)
      × (place_of (name_of t) others + length (name_of t) ≡ place_of (name_of m) others + length (name_of m)))

  where_is : (t : LocalType) → Served others t → key_in others t ≤ key_in others m → Where t
  unfolding key_in
  where_is t st top =
      let a = sm.stands in let b = st.stands in
      grind (arith, length-append, no_front, meet a.before _ a.after b.before _ b.after a.ends b.ends (cc))

  -- t is another one, and the designations are those in front of the last name
  module _ (t : LocalType) (st : Served others t) (where_t : Where t) (bytes : List ℕ) (r : Room (name_of m) sm.stands.before bytes 3)
      (filled : (bytes ≡ []) ⊎ In bytes []) where
    at_the_end : Out bytes (name_of m) → Out bytes (name_of t) → Ends (name_of m) (name_of t) → HasPlace (with_text bytes (name_of m)) t
    unfolding with_text
    at_the_end out away e =
        let size = st.size.1 in let there = stands_in _ _ (end_stands (put_stands bytes (name_of m)) e) in
        let put = put_in bytes (name_of m) (name_of t) e in
        let room = λ (s : Stands sm.stands.before (name_of t)). room_of _ _ _ _ _ r st.stands.ends (inr e) s away in
        grind (arith, nat_tests, nil_from_length, length-append)

    laid_place : (3 ≤ length (name_of t) → length (name_of t) ≤ 7 → (Ends (name_of m) (name_of t) → ⊥) → In bytes (name_of t))
        → HasPlace (with_text bytes (name_of m)) t
    laid_place inside =
        let in_front = kept bytes (name_of m) (name_of t) in let e = ends_or_not (name_of m) (name_of t) in
        let end = λ (e : Ends (name_of m) (name_of t)) (l : In bytes (name_of m)). (stands_in bytes _ (end_stands (in_stands bytes _ l) e)).1 in
        let out = at_the_end in grind (arith, cases_lt, nil_from_length, ends_nothing)

  -- ---- all types, of which m has the greatest key
  module _ (types : List LocalType) (s : All (Served others) types) (top : All (λ t. key_in others t ≤ key_in others m) types) where
    places_with : HavePlaces (laid (name_of m) types) types
    unfolding laid with_text
    places_with i d l =
        let given : All (Given (name_of m) sm.stands.before) types = λ i d l. let st = s i d l in let where_t = where_is _ st (top i d l) in grind arith in
        let p = before_passed _ _ types given in
        laid_place _ (s i d l) (where_is _ (s i d l) (top i d l)) _ p.room
        (before_keeps (λ d. (d ≡ []) ⊎ In d []) (λ d text h. grind (arith, nat_tests, put_in, ends_nothing)) _ types (inl refl))
        (p.inside (omega arith) i d l)

    -- the texts are in what is laid in order
    in_order_in : All (λ t. In (laid [] types) (name_of t)) types
    unfolding laid
    in_order_in i d l =
        let whole = added sm.stands.before (name_of m) in
        let stands : All (λ t. Stands whole (name_of t)) types = λ i d l. let where_t = where_is _ (s i d l) (top i d l) in
        let end = λ (e : Ends (name_of m) (name_of (get_or types i d))). end_stands (put_stands sm.stands.before (name_of m)) e in
        grind (arith, append_assoc) in
        let short : length whole ≤ 263 = grind (arith, length-append) in
        let t = get_or types i d in let size = (s i d l).size in
        let p = before_passed [] whole types (λ i d l. let st = s i d l in let there = stands i d l in grind arith) in
        let out = room_of [] whole (before_last [] types) [] 3 p.room tt (inl (omega arith)) (end_stands (stands i d l) (ends_nothing _)) in
        let inside = p.inside short i d l in let keep = kept (before_last [] types) [] (name_of t) in
        let nothing = λ (e : Ends [] (name_of t)). length-append e.front (name_of t) in grind (arith, nil_from_length, put)

-- ---- no shorter ones
in_order_short : (types : List LocalType) (others : List ℕ) → 0 < length types → AreNamesIn others types → length (laid [] types) ≤ length others
in_order_short types others some names =
    let first : Stands others _ = record { before = _; after = _; whole = (names 0 (plain_type (pos 0)) some).stands.whole } in
    laid_short [] _ types tt (end_stands first (ends_nothing _)) (λ i d l. let named = names i d l in grind arith)

-- ---- what is laid
abbrev AreNames : List LocalType → Type 0
AreNames types = All (λ t. IsNameOrNone t.name) types

have_places_decided : (bytes : List ℕ) (types : List LocalType) → Decides (have_places bytes types) (HavePlaces bytes types)
have_places_decided bytes types =
    Decides-by_and _ (HasPlace bytes) (list_all (has_place bytes)) (λ t. grind (arith, nat_tests)) refl (λ _ _. refl) types

-- each type has its place, and the designations are no longer than those in order
abbrev ArePlaced : List LocalType → List ℕ → Type 0
ArePlaced types d = HavePlaces d types × (length d ≤ length (laid [] types))

otherwise_placed : (types : List LocalType) (texts d : List ℕ) → placed_otherwise types texts ≡ Some d → ArePlaced types d
unfolding placed_with are_placed
otherwise_placed types [] d e = grind arith
otherwise_placed types (b ∷ bs) d e =
    let every = have_places_decided d types in let later = otherwise_placed types bs d in grind (arith, nat_tests)

laid_placed : (types : List LocalType) (d : List ℕ) → laid_names types ≡ Some d → ArePlaced types d
unfolding laid_names
laid_placed types d e =
    let here = have_places_decided d types in let later = otherwise_placed types (laid [] types) d in grind arith

-- the text is at the place, or at the same place of the rest
pub next_place : (text bytes : List ℕ) (i : ℕ) → i < length bytes
    → place_of text (drop i bytes) ≡ cond (begins text (drop i bytes)) 0 (suc (place_of text (drop (i + 1) bytes)))
next_place text bytes i l = rw (drop_more bytes i 0 l) refl

-- the text at a place comes first of those that are left
pub next_text : (types : List LocalType) (texts : List ℕ) (place : ℕ) → place < length texts
    → placed_otherwise types (drop place texts) ≡ or_else (placed_with types (text_at texts place)) (placed_otherwise types (drop (place + 1) texts))
next_text types texts place l = rw (drop_more texts place 0 l) refl

-- none is placed with a text as the last
none_with : (types : List LocalType) (texts : List ℕ) (place : ℕ) → placed_otherwise types texts ≡ None → place < length texts
    → placed_with types (text_at texts place) ≡ None
none_with types (b ∷ bs) (suc place) e l = grind (arith, none_with types bs place)
none_with types texts place e l = grind arith

none_placed : (types : List LocalType) (last : List ℕ) → (length last ≡ 0) ⊎ (3 ≤ length last) → laid_names types ≡ None → HasNoZero last
    → In (laid [] types) last → ArePlaced types (laid last types) → ⊥
unfolding laid_names placed_with are_placed
none_placed types last size e whole found p =
    let s = has_text last _ whole found in let none = none_with types (laid [] types) (place_of last (laid [] types)) in
    let every = have_places_decided (laid last types) types in
    grind (arith, nat_tests, nil_from_length, drop-append_seam, front_is)

pub none_laid : (types : List LocalType) (others : List ℕ) → 0 < length types → AreNames types → AreNamesIn others types → laid_names types ≡ None → ⊥
none_laid [] others some named names none = grind arith
none_laid (t ∷ ts) others some named names none =
    let types = t ∷ ts in
    let s : All (Served others) types = λ i d l.
    let h = names i d l in let name = named i d l in let at = stands_in _ _ (record { before = _; after = _; whole = h.stands.whole }) in
    grind (arith, nat_tests, has_text) in
    let (place, inside, above) = greatest others t t ts in
    let m = get_or types place t in let sm = s place t inside in
    let there = in_order_in _ m sm types s above in let found = there place t inside in
    let short : length (laid (name_of m) types) ≤ length (laid [] types) = grind (arith, laid_short, in_stands) in
    none_placed types (name_of m) sm.size.1 none sm.stands.ends found (places_with _ m sm types s above, short)

-- the designations that are laid
abbrev pub AreLaid : List LocalType → List ℕ → Type 0
AreLaid types d = HavePlaces d types × (laid_names types ≡ Some d) × AreShortest d types

-- there are types, and each has a name
module _ (types : List LocalType) (some : 0 < length types) (names : AreNames types) where
  pub laid_is : (d : List ℕ) → laid_names types ≡ Some d → AreLaid types d
  laid_is d e =
      let placed = laid_placed types d e in
      let named : AreNamesIn d types = λ i o l. let p = placed.0 i o l in
      record { place = _; stands = has_text _ d (no_zero _ (names i o l)) p.stands; named = p.named } in
      (placed.0, e, grind (arith, in_order_short))

  -- some designations are laid, if any have the names
  pub laid_of : (bytes : List ℕ) → AreNamesIn bytes types → AreLaid types (name_or_none (laid_names types))
  laid_of bytes named = let none = none_laid types bytes some names named in laid_is _ (grind arith)

-- ---- they have room
pub laid_size : (types : List LocalType) (bytes : List ℕ) → laid_names types ≡ Some bytes → length bytes ≤ 263
unfolding laid with_text
laid_size types bytes h =
    let step : (d text : List ℕ) → length d ≤ 263 → length (with_text d text) ≤ 263 = λ d text h. grind (arith, length-append) in
    let size = step _ [] (before_keeps (λ d. length d ≤ 263) step [] types (omega arith)) in let placed = laid_placed types bytes h in omega arith
