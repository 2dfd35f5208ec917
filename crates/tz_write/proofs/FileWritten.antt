-- What is written of a zone.
use Rattle.std.proofs.{
  Math.{Facts.Fits-of_z, ListN.get_or-eq_default, Seq.get_or-append_seam},
  lemmas.{Int.to_z-of_z, List.{Concat.flat_map_single, Elements.{All-more, All-nil}, ext_get_or, flat_map_more, get_or_append_left, get_or_push}},
  lemmas.{List.{get_or-append-add, get_or-drop, get_or-map, get_or-take}, Nat.{from_be_bytes-to_be_bytes_4, from_be_bytes-to_be_bytes_8}},
  lemmas.Str.{Ascii.{IsAscii-cons, IsAscii-nil}, IsUtf8-from_ascii},
}
use Rattle.std.specs.Str.{IsAscii}
use Rattle.tz_base.specs.{Grammar.{At, Byte, Check, Each, Ended, Exact, Grammar, Here, IsRun, Marked, Nothing, Number, Rest, Run, Then}, LocalTypes.plain_type}
use Rattle.tz_file.proofs.FilePieceLaws.{file_ends}
use Rattle.tz_info.proofs.{PosixLaws.{in_footer}, TzFileLaws.{one_pieces}}
use Rattle.tz_info.proofs.Words.{All-push, FilePieces, FitsSigned, IsTzFile, cases_lt, designation_of, drop-drop, drop_front, exact_cut, is_not_zero, leap_at}
use Rattle.tz_info.proofs.Words.{length-drop, length-take, nil_from_length, record_at, take-append-drop, take-suc, take_all, take_more, transition_at}
use Rattle.tz_info.proofs.Words.{values_below, w32, w64, ◌-◌}
use Rattle.tz_base.proofs.TrimLaws.{trim_whole}
use Rattle.tz_file.specs.declared.header.{Counts.{Counts}, Header.{Header}, Place.{TheVariants.{First, Second}, Place}, Version.TheVariants.{Three, Two}}
use Rattle.tz_file.specs.{declared.header.Version.{Version}, FileContents.{designation, indicators, local_type, mark, type_at, typed}}
use Rattle.tz_file.specs.{FileHeaders.{CountsAgree}, FilePieces.{later_pieces}}
use Rattle.tz_base.specs.declared.transition.Transition.{Transition}
use Rattle.tz_info.specs.{Footers.{footer, footer_text, newline, optional_footer, utf8}, TzFiles.{contents, tz_file}}
use Rattle.tz_write.{
  proofs.Words.{[], All, AllOf, Bool, HasNoZero, HasPieces, HasPlace, HavePlaces, IsNamedIn, IsRuleOrNone, IsType, IsTzText, List, LocalType, None, Option},
  proofs.Words.{Parts, Room, Some, Spells, StandsAt, append-nil, drop, ints, name_of, name_or_none, nat_tests, TransitionRule, Zone, after_first_block, ap},
  proofs.Words.{arith, be_u32, block, counts_bytes, counts_test, false, file, place_of, zero, file_bytes, first_half, first_version, flat_map, get_or, header},
  proofs.Words.{header_bytes, index_bytes, inl, inr, laid_file, later_version, leap_bytes, length, length-append, magic, number_bytes, pos, refl, second_half},
  proofs.Words.{signed, signed_bytes, six_counts, suc, sym, take, time_bytes, true, type_bytes, tzif, version, ℕ, ℤ, ◌*◌, ◌++◌, ◌+◌, ◌<◌, ◌^◌, ◌↔◌, ◌∷◌, ◌≡◌},
  proofs.Words.{◌≢◌, ◌≤◌, ◌⊎◌},
  proofs.LaidNames.{AreLaid, has_text, laid_of, laid_size, no_zero},
  proofs.RuleTexts.{rule_read, rule_text, text_are, text_begins, text_is},
  proofs.TextBytes.{AreTextBytes, no_space, no_zeros},
  specs.WrittenFiles.{AreBytes, HasCounts, HasIndex, IsFooterText, IsSound, IsSpellableOrNone, IsWritable, IsWrittenFile},
  specs.FileBytes.{footer_bytes, least_counts},
  specs.Steps.{FileParts.IsRoomOf, LaidFiles.{block_bytes, footer_text as text_of_rule, is_extended, least_block, unused, zone_counts, zone_parts}},
}

-- a count
number_is : {n : ℕ} (rest : List ℕ) → n < 2 ^ 32 → Spells be_u32 (number_bytes n ++ rest) n rest
unfolding number_bytes be_u32
number_is {n} rest h = (number_bytes n, rest, (refl, refl), (sym (from_be_bytes-to_be_bytes_4 n h), refl))

-- numbers in two's complement
signed_32 : (z : ℤ) → FitsSigned w32 z → signed w32 (signed_bytes w32 z) ≡ z
unfolding signed signed_bytes
signed_32 z h = grind (arith, from_be_bytes-to_be_bytes_4, Fits-of_z {w = w32} h, to_z-of_z)

signed_64 : (z : ℤ) → FitsSigned w64 z → signed w64 (signed_bytes w64 z) ≡ z
unfolding signed signed_bytes
signed_64 z h = grind (arith, from_be_bytes-to_be_bytes_8, Fits-of_z {w = w64} h, to_z-of_z)

-- ---- records laid end to end
module _ {X : Type 0} (size : ℕ) (f : X → List ℕ) (sized : (x : X) → length (f x) ≡ size) where
  record_is : (xs : List X) (k : ℕ) (d : X) → k < length xs → record_at size (flat_map f xs) k ≡ f (get_or xs k d)
  record_is [] k d l = absurd (omega arith)
  record_is (x ∷ xs) zero d l = grind (arith, exact_cut, sized)
  record_is (x ∷ xs) (suc k) d l =
      grind (arith, exact_cut size (f x ++ flat_map f xs) (f x) (flat_map f xs) refl (sized x), drop-drop, record_is xs k d)

  records_length : (xs : List X) → length (flat_map f xs) ≡ length xs * size
  records_length [] = omega arith
  records_length (x ∷ xs) = grind (arith, length-append, records_length xs)

-- values of places
module _ {X : Type 0} where
  values_is : (f : ℕ → X) (n : ℕ) → (length (values_below n f) ≡ n) × ((k : ℕ) (d : X) → k < n → get_or (values_below n f) k d ≡ f k)
  values_is f zero = (refl, λ k d l. absurd (omega arith))
  values_is f (suc n) = let h = values_is f n in (grind (arith, length-append), λ k d l. grind (arith, get_or_push, get_or_append_left, cases_lt k n))

  values_are : (f : ℕ → X) (xs : List X) → ((k : ℕ) (d : X) → k < length xs → f k ≡ get_or xs k d) → values_below (length xs) f ≡ xs
  values_are f [] each = refl
  values_are f (x ∷ xs) each = let h = values_is f (length (x ∷ xs)) in ext_get_or x _ _ h.0 (λ k l. grind arith)

  each_are : (g : ℕ → Grammar X) (bytes : List ℕ) (xs : List X) → ((k : ℕ) (d : X) → k < length xs → Spells (g k) bytes (get_or xs k d) bytes)
      → (n : ℕ) → n ≤ length xs → Spells (Each n g) bytes (take n xs) bytes
  each_are g bytes (x ∷ xs) each (suc n) l =
      (_, bytes, each_are g bytes (x ∷ xs) each n (omega arith), (_, bytes, each n x (omega arith), (take-suc (x ∷ xs) n x (omega arith), refl)))
  each_are g bytes xs each n l = grind arith

  each_all : (P : X → Type 0) (g : ℕ → Grammar X) (bytes : List ℕ) (n : ℕ) (xs : List X) (rest : List ℕ)
      → ((k : ℕ) (bytes : List ℕ) (x : X) (rest : List ℕ) → Spells (g k) bytes x rest → P x) → Spells (Each n g) bytes xs rest
      → All P xs × (length xs ≡ n)
  each_all P g bytes zero xs rest each h = (rw h.0 (All-nil P), ap length h.0)
  each_all P g bytes (suc n) xs rest each (ys, mid, h, (x, after, k, (value, _))) =
      let all = each_all P g bytes n ys mid each h in (rw value (All-push P ys x all.0 (each n mid x after k)), grind (arith, length-append))

-- ---- types
no_zero_is : (text : List ℕ) → HasNoZero text ↔ AllOf is_not_zero text
no_zero_is [] = grind arith
no_zero_is (b ∷ bs) = grind (arith, nat_tests, no_zero_is bs)

text_spelled : (d : List ℕ) (place : ℕ) (text : List ℕ) (s : StandsAt d place text) → Spells designation (drop place d) text s.after
unfolding designation
text_spelled d place text s =
    let at : drop place d ≡ text ++ (0 ∷ s.after) = rw (s.whole, ← s.at) (drop_front s.before (text ++ (0 ∷ s.after))) in
    let run : IsRun is_not_zero (text ++ (0 ∷ s.after)) text (0 ∷ s.after) = record { whole = refl; each = (no_zero_is text).0 s.ends; longest = refl } in
    let some : text ++ (0 ∷ s.after) ≢ [] = λ e. grind (arith, ap length e, length-append) in rw at (grind arith)

type_spelled : (d : List ℕ) (t : LocalType) → HasPlace d t → IsType t → Spells (local_type d) (type_bytes d t) t []
unfolding local_type mark typed type_bytes signed_bytes
type_spelled d t p h =
    let stands = has_text (name_of t) d (no_zero t.name h.name) p.stands in
    let same : designation_of (name_of t) ≡ t.name = grind arith in
    let place = place_of (name_of t) d ∷ [] in let named = text_spelled d _ _ stands in let offset = signed_bytes w32 t.offset in
    (offset, _, (refl, refl), (t.dst, place, grind arith, (place, [], (refl, refl), (_, [], (_, named, refl), grind (arith, ints, signed_32)))))

-- ---- items appended one after another
-- the pieces of the items are appended, and each is sound
pub record ArePushed {X : Type 0} (f : X → List ℕ) (P : X → Type 0) (old now : List ℕ) (xs : List X) : Type 0 where
  pub appended : now ≡ old ++ flat_map f xs
  pub sound : All P xs

-- the item t comes next
module _ {X : Type 0} {now later : List ℕ} {i : ℕ} {t : X} (xs : List X) (d : X) (l : i < length xs) (is : t ≡ get_or xs i d) where
  pub flat_map_next : (f : X → List ℕ) (old : List ℕ) → now ≡ old ++ flat_map f (take i xs) → later ≡ now ++ f t
      → later ≡ old ++ flat_map f (take (i + 1) xs)
  flat_map_next f old e g = grind (arith, take_more, flat_map_more)

  pub pushed_next : {f : X → List ℕ} {P : X → Type 0} {old : List ℕ} → ArePushed f P old now (take i xs) → later ≡ now ++ f t → P t
      → ArePushed f P old later (take (i + 1) xs)
  pushed_next {P = P} h g p = record { appended = flat_map_next _ _ h.appended g; sound = All-more P xs i d l h.sound (rw is at p) }

-- ---- headers
-- counts of four bytes
abbrev CountsFit : Counts → Type 0
CountsFit c = (c.ut_local < 2 ^ 32) × (c.standard_wall < 2 ^ 32) × (c.leap_seconds < 2 ^ 32) × (c.transitions < 2 ^ 32) × (c.types < 2 ^ 32)
    × (c.designations < 2 ^ 32)

abbrev version_of : Bool → Version
version_of true = Three
version_of false = Two

counts_are : (c : Counts) (rest : List ℕ) → CountsFit c → Spells six_counts (counts_bytes c ++ rest) c rest
unfolding counts_bytes number_bytes six_counts
counts_are c rest (a, b, d, e, f, g) =
    (_, _, number_is _ a, (_, _, number_is _ b, (_, _, number_is _ d, (_, _, number_is _ e, (_, _, number_is _ f, (_, _, number_is _ g, (refl, refl)))))))

header_is : (place : Place) (extended : Bool) (c : Counts) (rest : List ℕ) → CountsFit c → CountsAgree c
    → Spells (header place) (header_bytes extended c ++ rest) (record { version = version_of extended; counts = c }) rest
unfolding header_bytes header tzif version
header_is place extended c rest fit agree =
    let after = unused ++ (counts_bytes c ++ rest) in let counts = counts_are c rest fit in let given = version_of extended in
    (tt, _, (magic, _, (refl, refl), (refl, refl, refl)), (given, after, grind arith, (unused, _, (refl, refl), (_, _, counts, (agree, refl, refl)))))

-- ---- footers
ascii : (text : List ℕ) → AreTextBytes text → IsAscii (text ++ 10 ∷ [])
ascii [] h = IsAscii-cons 10 [] (omega arith) IsAscii-nil
ascii (b ∷ bs) h = IsAscii-cons b (bs ++ 10 ∷ []) (grind (arith, nat_tests)) (ascii bs h.1)

-- no text is no rule; that of a rule has letters, digits and signs of ASCII, and no colon in front
abbrev SaysRule : Bool → List ℕ → Option TransitionRule → Type 0
SaysRule extended text None = text ≡ []
SaysRule extended text (Some rule) = (text ≢ []) × IsTzText extended text rule × AreTextBytes text × (get_or text 0 0 ≢ 58)

footer_is : (extended : Bool) (text : List ℕ) (rule : Option TransitionRule) → SaysRule extended text rule
    → Spells (footer extended) (footer_bytes text) rule (footer_bytes text)
unfolding footer utf8 newline footer_text
footer_is extended text rule says =
    let p : AreTextBytes text × (get_or text 0 0 ≢ 58) = grind arith in
    let utf8 = IsUtf8-from_ascii (footer_bytes text) (IsAscii-cons 10 (text ++ 10 ∷ []) (omega arith) (ascii text p.0)) in
    let trims = trim_whole (10 ∷ []) text (10 ∷ []) (refl, tt) (no_space text p.0) (refl, tt) in
    let run : IsRun is_not_zero text text [] =
    record { whole = sym (append-nil text); each = (no_zero_is text).0 (no_zeros text p.0); longest = tt } in
    let says : Spells (footer_text extended) text rule [] = (tt, text, inr (grind arith, ([], (text, [], run, inl (refl, (refl, refl))), refl)), grind arith) in
    let last : get_or (footer_bytes text) (length (footer_bytes text) - 1) 0 ≡ 10 =
    grind (arith, length-append, get_or-append_seam (10 ∷ text) 10 [] 0) in
    (tt, _, (utf8, refl, refl), (tt, _, (refl, refl, refl), (tt, _, (last, refl, refl), ([], rw trims says, refl))))

-- ---- the first half
abbrev least_parts : Parts
least_parts =
    record { times = []; type_indexes = []; types = 0 ∷ 0 ∷ 0 ∷ 0 ∷ 0 ∷ 0 ∷ []; designations = 0 ∷ []; leap_seconds = []; standard_wall = []; ut_local = [] }

first_header : (extended : Bool) (text d : List ℕ) (z : Zone) → Spells (header First) (file_bytes extended text d z)
    (record { version = version_of extended; counts = least_counts }) (least_block ++ second_half extended text d z)
unfolding file_bytes first_half header_bytes counts_bytes number_bytes
first_header extended text d z = header_is First extended _ _ (grind arith) ((counts_test least_counts).decides.0 refl)

-- ---- the second half
abbrev pieces_of : Bool → List ℕ → List ℕ → Zone → FilePieces
pieces_of extended text d z = later_pieces (record { version = version_of extended; counts = zone_counts d z }) (zone_parts d z) (footer_bytes text)

-- a zone that has types, and designations that have their places
module _ (extended : Bool) (text d : List ℕ) (z : Zone) (size : length d ≤ 263) (counts : HasCounts z) (some : 0 < length z.types)
    (places : HavePlaces d z.types) (sound : IsSound z) where
  second_is : Spells later_version (second_half extended text d z) (pieces_of extended text d z) []
  unfolding second_half later_version block type_bytes leap_bytes signed_bytes
  second_is =
      let last : Spells (block 8 (zone_counts d z)) (block_bytes (zone_parts d z) (footer_bytes text)) (zone_parts d z) (footer_bytes text) =
      grind (arith, records_length 8 time_bytes, records_length 1 index_bytes, records_length 6 (type_bytes d), records_length 12 leap_bytes) in
      let first = places 0 (plain_type (pos 0)) some in let second = header_is Second extended _ _ (grind arith) (grind arith) in
      (_, _, second, (_, _, last, (_, [], (refl, refl), (refl, refl))))

  -- ---- the whole
  file_pieces : HasPieces (file_bytes extended text d z) (pieces_of extended text d z)
  unfolding file after_first_block block
  file_pieces = (_, _, first_header extended text d z, (least_parts, second_half extended text d z, grind arith, grind (arith, second_is)))

  file_says : SaysRule extended text z.rule → IsTzFile (file_bytes extended text d z) z
  unfolding tz_file contents indicators optional_footer leap_bytes signed_bytes type_at type_bytes
  file_says says =
      let p = pieces_of extended text d z in
      let same : p.extended ≡ extended = grind arith in
      let every = each_are (type_at p) [] z.types (λ k t l. rw (record_is 6 (type_bytes d) (λ _. refl) z.types k t l)
      ([], type_spelled d (get_or z.types k t) (places k t l) (sound.types k t l), refl)) (length z.types) (omega arith) in
      let types = rw (take_all (length z.types) z.types (omega arith)) at every in
      let transitions = values_are (transition_at p) z.transitions (λ k d l.
      let indexes = flat_map_single (λ (t : Transition). t.type_index) z.transitions in
      grind (arith, record_is 8 time_bytes (λ _. refl) z.transitions k d l, sound.times k d l, get_or-map, signed_64)) in
      let leaps = values_are (leap_at p) z.leaps (λ k d l. let entry = sound.leaps k d l in
      rw (record_is 12 leap_bytes (λ _. refl) z.leaps k d l) (grind (arith, signed_64 _ entry.time, signed_32 _ entry.correction))) in
      let footer : Spells (optional_footer p.extended p.footer) [] z.rule [] =
      (footer_bytes text, rw same (footer_is extended text z.rule says), refl) in
      (p, [], file_pieces, (_, [], types, (tt, [], ([], [], (refl, refl), (refl, refl)), (z.rule, [], footer, grind arith))))

-- numbers below 256
abbrev Bytes : List ℕ → Type 0
Bytes bytes = (i : ℕ) → get_or bytes i 0 < 256

back : (a b bytes : List ℕ) → bytes ≡ a ++ b → Bytes bytes → Bytes b
back a b bytes e h i = rw (← get_or-append-add a b i 0, ← e) (h (length a + i))

front : (a b bytes : List ℕ) → bytes ≡ a ++ b → Bytes bytes → Bytes a
front a b bytes e h i = let at = rw e at h i in grind (arith, get_or_append_left, get_or-eq_default, cases_lt i (length a))

-- ---- the values that a grammar spells in bytes, as far as numbers are read from them
abbrev Values : {X : Type 0} → Grammar X → X → Type 0
Values (Nothing v) x = x ≡ v
Values (Then {X = X} g f) y = (x : X) × Values g x × Values (f x) y
Values (Exact n) x = Bytes x × (length x ≡ n)
Values (Check P test refusal v) x = P × (x ≡ v)
Values (Here f) x = (bytes : List ℕ) × Values (f bytes) x
Values (At place g) x = Values g x
Values g x = Unit {0}

values : {X : Type 0} (g : Grammar X) (bytes : List ℕ) (x : X) (rest : List ℕ) → Spells g bytes x rest → Bytes bytes → Values g x × Bytes rest
values (Then g f) bytes y rest (x, after, p, q) b = let v = values g bytes x after p b in let w = values (f x) after y rest q v.1 in ((x, v.0, w.0), w.1)
values (Marked tag g h) bytes x rest (inl (after, is, p)) b = grind (arith, values g after x rest p (back (tag ∷ []) _ _ is b))
values (Marked tag g h) bytes x rest (inr (_, p)) b = grind (arith, values h bytes x rest p b)
values (Ended g h) bytes x rest p b = grind (arith, values g bytes x rest, values h bytes x rest)
values (Exact n) bytes x rest h b = ((front x _ _ h.0 b, h.1), back x _ _ h.0 b)
values (Here f) bytes x rest h b = let v = values (f bytes) bytes x rest h b in ((bytes, v.0), v.1)
values (At place g) bytes x rest h b = values g bytes x rest h b
values (Byte tag) bytes x rest h b = (tt, back (tag ∷ []) _ _ h b)
values (Run p) bytes x rest h b = (tt, back x _ _ h.whole b)
values (Number max) bytes x rest h b = (tt, back h.digits _ _ h.whole b)
values g bytes x rest h b = grind (arith, back)

-- ---- counts
header_fits : (place : Place) (h : Header) → Values (header place) h → CountsFit h.counts
unfolding header six_counts be_u32
header_fits place h (_, _, (_, _, (_, _, (_, (c, (i, j, (k, l, (m, n, (o, p, (q, r, (s, t, value)))))), (_, is)))))) = grind arith

last_bytes : (time_size : ℕ) (c : Counts) (p : Parts) → Values (block time_size c) p → Bytes p.type_indexes × Bytes p.types
unfolding block
last_bytes time_size c p (_, _, (_, (i, _), (_, (t, _), (_, _, (_, _, (_, _, (_, _, value))))))) = rw value (i, t)

after_fits : (v : Version) (c : Counts) (parts : Parts) (p : FilePieces) → Values (after_first_block v c parts) p → CountsFit c → CountsFit p.counts
unfolding after_first_block first_version later_version
after_fits v c parts p h fit = grind (arith, header_fits)

-- ---- names
text_stands : (d : List ℕ) (place : ℕ) (text rest : List ℕ) → Spells designation (drop place d) text rest → StandsAt d place text
unfolding designation
text_stands d place text rest h =
    let none = nil_from_length (drop place d) in grind (arith, take-append-drop place d, length-take, length-drop, no_zero_is)

type_named : (p : FilePieces) (k : ℕ) (bytes : List ℕ) (t : LocalType) (rest : List ℕ) → Bytes p.parts.types → Spells (type_at p k) bytes t rest
    → IsNamedIn p.parts.designations t
unfolding type_at local_type typed
type_named p k bytes t rest b (_, (offset, a, cut, (dst, c, m, (place, e, one, (text, f, (g, spelled, _), (_, is, _))))), _) =
    let record_bytes : Bytes (record_at 6 p.parts.types k) = λ i. let at = b (k * 6 + i) in
    grind (arith, get_or-drop, cases_lt i 6, get_or-take, get_or-eq_default, length-take) in
    let same : name_or_none (designation_of text) ≡ text = grind arith in
    record {
      place = get_or place 0 0;
      stands = rw (is, same) (text_stands p.parts.designations _ text g spelled);
      named = front place e c one.0 (values mark a dst c m (back offset a _ cut.0 record_bytes)).1 0;
    }

pub writable : (bytes : List ℕ) (z : Zone) → AreBytes bytes → IsTzFile bytes z → IsWritable z
unfolding file tz_file contents
writable bytes z are (p, after, pieces, (types, c, each, (_, e, _, (rule, f, says, (value, _))))) =
    let b : Bytes bytes = λ i. let at = are i 0 in grind (arith, cases_lt i (length bytes), get_or-eq_default) in
    let (before, _, whole, _, last, _) = file_ends bytes p after pieces in
    let (indexes, in_types) = last_bytes p.time_size p.counts p.parts (values (block p.time_size p.counts) _ _ _ last (back before _ _ whole b)).0 in
    let counts : CountsFit p.counts = grind (arith, values, after_fits, header_fits) in
    let named = each_all (IsNamedIn p.parts.designations) (type_at p) after p.counts.types types c (λ k s t r. type_named p k s t r in_types) each in
    let times = values_is (transition_at p) p.counts.transitions in
    let leaps = values_is (leap_at p) p.counts.leap_seconds in
    let each_index : All HasIndex (values_below p.counts.transitions (transition_at p)) = λ k d l. rw (times.1 k d (omega (arith, times.0))) (indexes k) in
    let footer = in_footer p.extended p.footer e rule f says in
    rw value (record { room = record { counts = grind arith; indexes = each_index; designations = _; names = named.0 }; rule = grind (arith, rule_read) })

-- ---- a zone that can be written
module _ (z : Zone) (some : 0 < length z.types) (fits : IsRuleOrNone z.rule) (sound : IsSound z) where
  pub written_is : (d text : List ℕ) (extended : Bool) → HasCounts z → AreLaid z.types d → IsFooterText z.rule text extended
      → IsWrittenFile z (file_bytes extended text d z)
  unfolding laid_file file_bytes first_half second_half header_bytes counts_bytes number_bytes
  written_is d text extended counts laid footer =
      let says : SaysRule extended text z.rule = grind (arith, rule_read, rule_text, text_begins, text_are) in
      let size = laid_size _ _ laid.1 in record {
        spells = file_says extended text d z size counts some laid.0 sound says;
        text = text;
        extended = extended;
        footer = footer;
        pieces = λ q has. rw (one_pieces _ q _ has (file_pieces extended text d z size counts some laid.0 sound))
            (record { standard_wall = refl; ut_local = refl; names = laid.2; footer = refl });
        version = record { first = refl; second = refl };
        first = (version_of extended, _, first_header extended text d z);
        same = let once : (text ≡ text_of_rule z.rule) × (extended ≡ is_extended z.rule) = grind (arith, rule_text) in rw (once.0, once.1, laid.1) refl;
      }

  pub file_some : IsWritable z → (bytes : List ℕ) × IsWrittenFile z bytes
  file_some h =
      let laid = laid_of z.types some (λ i d l. (sound.types i d l).name) h.room.designations h.room.names in
      (_, written_is _ (text_of_rule z.rule) (is_extended z.rule) h.room.counts laid (grind (arith, text_is)))

pub can_be_written : (z : Zone) (room : Room) → IsRoomOf z room → IsSpellableOrNone z.rule → IsWritable z
can_be_written z room h text =
    record { room = record { counts = h.counts; indexes = h.indexes; designations = room.designations; names = h.shortest.names }; rule = text }
