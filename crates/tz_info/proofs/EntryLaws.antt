-- How the entries of a zone are made, one transition after another.
use Rattle.std.proofs.lemmas.{List.{take-append-le, Elements.filter-append}}
use Rattle.tz_info.proofs.{
  LeapStarts.own_leap_time,
  SegmentLaws.{come_by_time, index_next, not_later, place_most},
  Words.{All, All-push, AreLeapSeconds, AreRising, FitsSigned, IsFromLast, IsLeapTime, IsLeapTimeRefused, IsValid, LeapSecond, List, Transition, Zone, []},
  Words.{all_pairs_push, append-nil, arith, by_lt_z, cases_lt, get_or, get_or_append_left, get_or_default, get_or_push, index_of, last_else, le_false, le_true},
  Words.{length, length_push, linear, map, nat_tests, passed, refl, slice_get, slice_get-get_or, suc, sym, take, take_all, take_more, w64, zero, ℕ, ℤ, ◌++◌},
  Words.{◌+◌, ◌-◌, ◌<ℤ◌, ◌<◌, ◌==◌, ◌↔◌, ◌∷◌, ◌≡◌, ◌≢◌, ◌≤ℤ◌, ◌≤◌, ◌⊎◌},
  ZoneChanges.refused_on,
}
use Rattle.tz_info.specs.{
  Transitions.NameTypes,
  Steps.Entries.{AllChange, AreBefore, AreEntries, IsAdded, IsStartIn, NeverComes, added, as_listed, idle, last_index},
}

-- ---- lists with one item more
last_more : (ts : List Transition) (t : Transition) (i : ℕ) → last_else i (map (λ (s : Transition). s.type_index) (ts ++ t ∷ [])) ≡ t.type_index
last_more [] t i = refl
last_more (s ∷ ts) t i = last_more ts t s.type_index

passed_in : (ts : List Transition) (t : Transition) (x : ℤ) → t.unix_leap_time ≤ℤ x → passed (ts ++ t ∷ []) x ≡ passed ts x ++ t ∷ []
passed_in ts t x h = grind (linear, filter-append)

passed_out : (ts : List Transition) (t : Transition) (x : ℤ) → x <ℤ t.unix_leap_time → passed (ts ++ t ∷ []) x ≡ passed ts x
passed_out ts t x h = grind (linear, filter-append, append-nil)

passed_all : (ts : List Transition) (x : ℤ) → All (λ t. t.unix_leap_time ≤ℤ x) ts → passed ts x ≡ ts
passed_all [] x h = refl
passed_all (t ∷ ts) x h = rw (le_true t.unix_leap_time x (h 0 t (omega arith)), passed_all ts x (λ k d l. h (suc k) d (omega arith))) refl

-- none after the first k has come
passed_first : (ts : List Transition) (k : ℕ) (x : ℤ) → ((i : ℕ) (d : Transition) → k ≤ i → i < length ts → x <ℤ (get_or ts i d).unix_leap_time)
    → passed ts x ≡ passed (take k ts) x
passed_first [] zero x h = refl
passed_first [] (suc k) x h = refl
passed_first (t ∷ ts) zero x h =
    rw (le_false t.unix_leap_time x (h 0 t (omega arith) (omega arith))) (passed_first ts 0 x (λ i d l m. h (suc i) d (omega arith) (omega arith)))
passed_first (t ∷ ts) (suc k) x h = grind (linear, le_false, le_true, passed_first ts k x (λ i d l m. h (suc i) d (omega arith) (omega arith)))

-- all have come if and only if the last has
last_come : (ts : List Transition) (i : ℕ) (d : Transition) (x : ℤ) → AreRising ts → i + 1 ≡ length ts
    → (length (passed ts x) ≡ length ts) ↔ ((get_or ts i d).unix_leap_time ≤ℤ x)
last_come ts i d x rising e = grind (linear, come_by_time, place_most)

-- ---- the entries of the first k transitions
abbrev IsOwn : Zone → ℕ → Transition → Type 0
IsOwn z k e = (t : Transition) × (i : ℕ) × (i < k) × (t ≡ get_or z.transitions i t) × IsStartIn z.leaps t.unix_leap_time e.unix_leap_time

pub record AreMadeOf (z : Zone) (entries : List Transition) (k : ℕ) : Type 0 where
  pub rising : AreRising entries
  pub indexes : NameTypes (length z.types) entries
  pub few : length entries ≤ k
  pub named : (u x : ℤ) → IsLeapTime z.leaps u x
      → slice_get z.types (last_index (passed (take k z.transitions) x)) ≡ slice_get z.types (last_index (passed entries u))
  -- each comes when one of those does
  pub own : All (IsOwn z k) entries
  pub come : k ≡ length z.transitions → (u x : ℤ) → IsLeapTime z.leaps u x → IsFromLast z x ↔ (length (passed entries u) ≡ length entries)
  pub some : 0 < k → k ≡ length z.transitions → 0 < length entries
  pub differ : (j : ℕ) → j < length entries → (j + 1 < length entries) ⊎ (k < length z.transitions)
      → slice_get z.types (index_of entries (j + 1)) ≢ slice_get z.types (index_of entries j)

-- what holds of all holds of those
pub kept_all : (P : Transition → Type 0) (entries kept : List Transition) (s : ℤ) → AreBefore entries s kept → All P entries → All P kept
kept_all P entries kept s before all j d l = grind (linear, length_push, get_or_append_left, take-append-le, passed_out)

-- ---- one turn of the loop
pub record IsTurn (z : Zone) (old kept entries : List Transition) (k : ℕ) (s : ℤ) (t : Transition) : Type 0 where
  pub valid : IsValid z
  pub more : k < length z.transitions
  pub item : t ≡ get_or z.transitions k t
  pub made : AreMadeOf z old k
  pub start : IsStartIn z.leaps t.unix_leap_time s
  pub before : AreBefore old s kept
  pub change : IsAdded z.types kept (record t { unix_leap_time = s }) (k + 1 == length z.transitions) entries

module _ (z : Zone) (old kept entries : List Transition) (k : ℕ) (s : ℤ) (t : Transition) (h : IsTurn z old kept entries k s t) where
  earlier : All (λ e. e.unix_leap_time <ℤ s) kept
  earlier j d l =
      let until : All (λ e. e.unix_leap_time ≤ℤ s) old = λ j d l.
      let (y, time) = h.start.leap_time in
      let (a, i, below, own, start) = h.made.own j d l in
      let r = h.valid.transitions.rising i k a below h.more in
      let b = start.reached s y time in
      let c = h.start.reached s y time in grind (linear, get_or_default) in
      let r = h.made.rising j (length old - 1) d in let before = h.before in grind (linear, slice_get-get_or, get_or_append_left, length_push)

  kept_same : (u : ℤ) → u <ℤ s → passed kept u ≡ passed old u
  kept_same u early = let before = h.before in grind (linear, passed_out)

  taken : take (k + 1) z.transitions ≡ take k z.transitions ++ t ∷ []
  taken = grind (linear, take_more)

  -- before the second nothing is new
  named_before : (u x : ℤ) → IsLeapTime z.leaps u x → u <ℤ s
      → slice_get z.types (last_index (passed (take (k + 1) z.transitions) x)) ≡ slice_get z.types (last_index (passed kept u))
  named_before u x l early =
      let r = h.start.reached u x l in grind (linear, taken, passed_out, kept_same)

  named_from : (u x : ℤ) → IsLeapTime z.leaps u x → s ≤ℤ u → last_index (passed (take (k + 1) z.transitions) x) ≡ t.type_index
  named_from u x l late = rw (taken, passed_in _ t x (grind linear), last_more) refl

  -- then the entries are those of one transition more
  pub turned : AreMadeOf z entries (k + 1)
  turned =
      let few : length kept ≤ length old = grind (linear, length_push) in
      let rising : AreRising kept = grind (linear, length_push, get_or_append_left) in
      let indexes : NameTypes (length z.types) kept = kept_all (λ a. a.type_index < length z.types) old kept s h.before h.made.indexes in
      let own : All (IsOwn z (k + 1)) kept = kept_all (IsOwn z (k + 1)) old kept s h.before (λ j d l.
      let (a, i, below, own, start) = h.made.own j d l in grind linear) in
      let differ : (j : ℕ) → j < length kept → slice_get z.types (index_of kept (j + 1)) ≢ slice_get z.types (index_of kept j) =
      λ j l. let d = h.made.differ j in grind (linear, length_push, get_or_append_left, take-append-le) in
      elim h.change [
        | idle e not same ↦ rw e (record {
          rising = rising;
          indexes = indexes;
          few = omega arith;
          named = λ u x l. by_lt_z u s (named_before u x l) (λ late.
              rw (named_from u x l late, passed_all kept u (λ j d m. let a = earlier j d m in omega linear)) same);
          own = own;
          come = grind (linear, nat_tests);
          some = grind (linear, nat_tests);
          differ = grind linear;
        })
        | added e why ↦
            let entry : Transition = record t { unix_leap_time = s } in
            let n = length_push kept entry in
            let full = kept ++ entry ∷ [] in
            let own_last = get_or_push kept entry t (length kept) refl in
            let longer : AreRising full =
            all_pairs_push (λ (a b : Transition). a.unix_leap_time <ℤ b.unix_leap_time) kept entry rising earlier in
            rw e (record {
              rising = longer;
              indexes = All-push (λ a. a.type_index < length z.types) kept entry indexes
                  (grind linear);
              few = omega arith;
              named = λ u x l. by_lt_z u s
                  (λ early. grind (linear, passed_out, named_before))
                  (λ late. rw (named_from u x l late, passed_in kept entry u late, last_more (passed kept u) entry 0) refl);
              own = All-push (IsOwn z (k + 1)) kept entry own (t, k, omega arith, h.item, h.start);
              come = λ m u x l.
                  let first = last_come z.transitions k t x h.valid.transitions.rising m in
                  let last = last_come full (length kept) t u longer (omega arith) in
                  grind arith;
              some = grind linear;
              differ = grind (linear, cases_lt, take-append-le, take_all, index_next, nat_tests);
            })
      ]

-- ---- all transitions
module _ (z : Zone) (entries : List Transition) (k all : ℕ) (valid : IsValid z) (made : AreMadeOf z entries k) where
  listed : length entries ≤ all → all ≤ length entries + 1 → (all ≡ length entries + 1 → k < length z.transitions) → ((0 < length z.transitions) ↔ (0 < all))
      → k ≤ length z.transitions
      → ((u x : ℤ) → FitsSigned w64 u → IsLeapTime z.leaps u x
      → (passed (take k z.transitions) x ≡ passed z.transitions x) × (IsFromLast z x ↔ (length (passed entries u) ≡ all)))
      → AreEntries z (record { items = entries; all = all; transitions = z.transitions })
  listed low high more some most then = record {
    listed = refl;
    rising = made.rising;
    indexes = made.indexes;
    few = omega arith;
    more = low;
    most = high;
    some = some;
    named = λ u x f l. rw (then u x f l).0 at (made.named u x l);
    come = λ u x f l. (then u x f l).1;
    leap_time = λ j h. (made.own j _ h).4.leap_time;
    differ = grind linear;
  }

  pub all_come : k ≡ length z.transitions → all ≡ length entries → AreEntries z (record { items = entries; all = all; transitions = z.transitions })
  all_come e a =
      listed (omega arith) (omega arith) (omega arith) (grind arith) (omega arith) (λ u x f l. (grind (arith, take_all), grind linear))

  pub never_come : (t : Transition) → k < length z.transitions → t ≡ get_or z.transitions k t → NeverComes z.leaps t.unix_leap_time
      → all ≡ length entries + 1 → AreEntries z (record { items = entries; all = all; transitions = z.transitions })
  never_come t more item never a =
      listed (omega arith) (omega arith) (λ _. more) (grind linear) (omega arith) (λ u x f l.
      let late = never u x f l in
      let c = come_by_time z.transitions x k t valid.transitions.rising more in (
        sym (passed_first z.transitions k x (λ i d low h.
            let n = not_later z.transitions k i d valid.transitions.rising low h in grind (linear, get_or_default))),
        grind (linear, place_most),
      ))

-- the transitions are the entries, if there is no leap second and each but the last changes the type
pub own_entries : (z : Zone) → IsValid z → length z.leaps ≡ 0 → AllChange z.types z.transitions (length z.transitions) → AreEntries z (as_listed z.transitions)
own_entries z valid none differ = grind (linear, own_leap_time)

-- ---- the second at which a transition comes
-- a leap time comes at no second if its first one has no leap time
module _ (leaps : List LeapSecond) (x start : ℤ) (reached : (u y : ℤ) → IsLeapTime leaps u y → (x ≤ℤ y) ↔ (start ≤ℤ u)) where
  pub never_refused : AreLeapSeconds leaps → IsLeapTimeRefused leaps start → NeverComes leaps x
  never_refused valid refused u y f l = by_lt_z y x (λ h. h) (λ h. absurd (refused_on leaps start u y valid ((reached u y l).0 h) refused l))
