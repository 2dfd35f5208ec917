-- Pieces of the wall-clock axis: one piece more, two runs of pieces together, and the pieces of the first segments in one pass.
use Rattle.tz_info.proofs.{
  Fits.fits,
  Prefixes.last_taken,
  WallSegments.{piece, shown_after, shown_before, shown_inside, shown_joined},
  Words.{All-push, AreCutsCrossed, AreInOrder, AreOrdered, ArePassed, ArePieces, ArePiecesAt, IsCutAt, IsLastOf, IsNext, IsSegment, IsShownAmong, IsStep},
  Words.{IsTable, IsWide, List, LocalType, None as none, Piece, Segment, Shown, Some, Transition, Zone, [], all_pairs_push, answer_at, answer_before, ap},
  Words.{arith, by_lt_z, cases_lt, cut_of, first_come, get_or, get_or_append_left, get_or_push, index_of, inl, inr, ints, le_false, le_true, length},
  Words.{length-map, length_push, linear, map, pos, refl, slice_get, slice_get_read, suc, take, take_more, times_ordered, together, ℕ, ℤ, ⊎_elim, ◌*◌, ◌++◌},
  Words.{◌+◌, ◌-◌, ◌<ℤ◌, ◌<◌, ◌∷◌, ◌≡◌, ◌≤ℤ◌, ◌≤◌},
}
use Rattle.tz_info.specs.{Steps.SegmentEnds.end_of, declared.zone.made.shown.Shown.TheVariants.{Less, Once, Skipped}}

-- one piece more
pub before_pushed : (b : Shown) (ps : List Piece) (p : Piece) → answer_before b (ps ++ (p ∷ [])) ≡ p.answer
before_pushed b [] p = refl
before_pushed b (q ∷ ps) p = before_pushed _ ps p

pub at_later : (b : Shown) (ps : List Piece) (p : Piece) (l : ℤ) → p.start ≤ℤ l → answer_at b (ps ++ (p ∷ [])) l ≡ p.answer
at_later b [] p l h = rw (le_true _ l h)
at_later b (q ∷ ps) p l h = grind (arith, at_later b ps p l h, at_later q.answer ps p l h)

pub at_earlier : (b : Shown) (ps : List Piece) (p : Piece) (l : ℤ) → l <ℤ p.start → answer_at b (ps ++ (p ∷ [])) l ≡ answer_at b ps l
at_earlier b [] p l h = rw (le_false _ l h)
at_earlier b (q ∷ ps) p l h = grind (arith, at_earlier b ps p l h, at_earlier q.answer ps p l h)

-- no piece starts after the local time
abbrev pub StartBy : List Piece → ℤ → Type 0
StartBy ps l = (k : ℕ) (d : Piece) → k < length ps → (get_or ps k d).start ≤ℤ l

-- if all have started the last one answers
pub at_all : (b : Shown) (ps : List Piece) (l : ℤ) → StartBy ps l → answer_at b ps l ≡ answer_before b ps
at_all b [] l h = refl
at_all b (q ∷ ps) l h = grind (arith, le_true, h 0 q, at_all q.answer ps l (λ k d m. h (suc k) d (omega arith)))

start_by_pushed : (ps : List Piece) (p : Piece) (l : ℤ) → StartBy (ps ++ (p ∷ [])) l → StartBy ps l × (p.start ≤ℤ l)
start_by_pushed ps p l h = grind (linear, get_or_push, get_or_append_left, length_push)

pub start_by_push : (ps : List Piece) (p : Piece) (l : ℤ) → StartBy ps l → p.start ≤ℤ l → StartBy (ps ++ (p ∷ [])) l
start_by_push ps p l h s = All-push (λ (q : Piece). q.start ≤ℤ l) ps p h s

-- the first i pieces of xs and the first j of ys are merged
pub record Merging (join : Shown → Shown → Shown) (bx : Shown) (xs : List Piece) (by : Shown) (ys out : List Piece) (i j : ℕ) : Type 0 where
  pub in_x : i ≤ length xs
  pub in_y : j ≤ length ys
  pub ordered : AreInOrder out
  pub count : length out ≡ i + j
  pub ahead_x : (d : Piece) → i < length xs → StartBy out (get_or xs i d).start
  pub ahead_y : (d : Piece) → j < length ys → StartBy out (get_or ys j d).start
  pub started : (l : ℤ) → StartBy out l → StartBy (take i xs) l × StartBy (take j ys) l
  pub answers : (l : ℤ) → answer_at (join bx by) out l ≡ join (answer_at bx (take i xs) l) (answer_at by (take j ys) l)

module _ {join : Shown → Shown → Shown} {bx : Shown} {xs : List Piece} {by : Shown} {ys out : List Piece} {i j : ℕ}
    (m : Merging join bx xs by ys out i j) where
  -- so are those of ys and those of xs
  merging_turned : Merging (λ a b. join b a) by ys bx xs out j i
  merging_turned = grind linear

  -- the next piece is that of xs
  merging_x : (p : Piece) → AreInOrder xs → IsNext xs i ys j → ((d : Piece) → p.start ≡ (get_or xs i d).start)
      → p.answer ≡ join (answer_before bx (take (i + 1) xs)) (answer_before by (take j ys)) → Merging join bx xs by ys (out ++ (p ∷ [])) (i + 1) j
  merging_x p order next starts is =
      let x = get_or xs i p in
      let inside = next.inside in
      let here = starts p in
      let more = take_more xs i p inside in
      let ahead = m.ahead_x p inside in
      record {
        in_x = omega arith;
        in_y = m.in_y;
        ordered = all_pairs_push (λ (a b : Piece). a.start ≤ℤ b.start) out p m.ordered (grind linear);
        count = grind (arith, length_push);
        ahead_x = λ d l. grind (linear, start_by_push out p, m.ahead_x d inside, order i (i + 1) d, starts d);
        ahead_y = grind (linear, start_by_push);
        started = λ l h. let s = start_by_pushed out p l h in rw more (grind (linear, m.started l s.0, start_by_push (take i xs) x l));
        answers = λ l. by_lt_z l p.start
            (λ before. let a = m.answers l in rw more (grind (linear, at_earlier)))
            (λ from. rw more (grind (linear, at_later, at_all, m.started l, rw more at is, before_pushed bx (take i xs) x)));
      }

-- the piece that comes next is added
pub merging_more : {bx : Shown} {xs : List Piece} {by : Shown} {ys out after : List Piece} {i j i_after j_after : ℕ} {start : ℤ} {a : Shown} → AreInOrder xs
    → AreInOrder ys → Merging together bx xs by ys out i j → IsStep xs i ys j start i_after j_after
    → a ≡ together (answer_before bx (take i_after xs)) (answer_before by (take j_after ys)) → after ≡ out ++ (record { start = start; answer = a } ∷ [])
    → Merging together bx xs by ys after i_after j_after
merging_more in_x in_y m step is e = ⊎_elim (λ s. rw (e, s.passed, s.stays) (merging_x m _ in_x s.next s.starts (rw (s.passed, s.stays) at is)))
    (λ s. rw (e, s.passed, s.stays) (merging_turned (merging_x (merging_turned m) _ in_y s.next s.starts (rw (s.stays, s.passed) at is)))) step

-- pieces in order, by the list of their starts
pub starts_in_order : (ps : List Piece) → AreInOrder ps → AreOrdered (map (λ (p : Piece). p.start) ps)
starts_in_order ps order = times_ordered (λ (p : Piece). p.start) ps (record { start = pos 0; answer = Once 0 }) (λ i j. order i j _)

-- pieces of which n have begun at a local time
module _ (b : Shown) (ps : List Piece) (l : ℤ) (n : ℕ) (passed : ArePassed (map (λ (p : Piece). p.start) ps) l n) where
  -- the last of the pieces that have started answers, and `b` does if none has
  started : answer_at b ps l ≡ answer_before b (take n ps)
  started = ap (answer_before b) (first_come (λ (p : Piece). p.start) ps l n passed)

  pub none_answers : IsLastOf ps n none → b ≡ answer_at b ps l
  none_answers latest = grind (arith, started)

  pub latest_answers : (p : Piece) → IsLastOf ps n (Some p) → p.answer ≡ answer_at b ps l
  latest_answers p latest = grind (arith, started, length-map, passed.within, last_taken, cases_lt 0 n)

-- ---- in one pass
pub end_before : (types : List LocalType) (ts : List Transition) (place : ℕ) (t : LocalType) → slice_get types (index_of ts (place - 1)) ≡ Some t
    → end_of types ts place ≡ cut_of ts place t.offset
end_before types ts place t has = rw has refl

pub ruleset ends = (end_before, fits, ints, slice_get_read)

-- the pieces of the first `place` segments, the last of which, s, is taken to have no end; the latest of them starts at `latest`
pub record AreOpen (z : Zone) (ts : List Transition) (place : ℕ) (s : Segment) (first : ℕ) (pieces : List Piece) (latest : ℤ) : Type 0 where
  pub segment : IsSegment z.types ts (place - 1) s
  pub ordered : AreInOrder pieces
  pub count : length pieces + 2 ≡ 2 * place
  pub started : (l : ℤ) → (1 < place → latest ≤ℤ l) → StartBy pieces l
  pub last : answer_before (Once first) pieces ≡ Once s.index
  pub cut : 1 < place → IsCutAt z.types ts (place - 1) latest
  -- it is over at no local time
  pub unended : (l : ℤ) (j : ℕ) → together (answer_at (Once first) pieces l) (Skipped j) ≡ answer_at (Once first) pieces l
  -- what the segments show before its end, and from there on
  pub inside : (l : ℤ) → IsWide l → (place ≤ length ts → l <ℤ cut_of ts place s.offset) → IsShownAmong z ts 0 place l (answer_at (Once first) pieces l)
  pub after : (l : ℤ) → IsWide l → place ≤ length ts → (1 < place → latest <ℤ cut_of ts place s.offset) → cut_of ts place s.offset ≤ℤ l
      → IsShownAmong z ts 0 place l Less
  pub rising : (k : ℕ) → 0 < k → suc k < place → end_of z.types ts k <ℤ end_of z.types ts (suc k)
  pub ended : 1 < place → end_of z.types ts (place - 1) ≤ℤ latest

-- at first there is the first segment
pub open_first : (z : Zone) (ts : List Transition) (top : ℕ) (s : Segment) (latest : ℤ) → IsTable z ts top → 0 < top → 0 < length ts
    → IsSegment z.types ts 0 s → AreOpen z ts 1 s (index_of ts 0) [] latest
open_first z ts top s latest table own any is = let index = is.index in record {
  segment = is;
  ordered = search arith;
  count = refl;
  started = grind arith;
  last = grind arith;
  cut = grind arith;
  unended = grind arith;
  inside = grind (arith, shown_inside table own is);
  after = grind (arith, shown_after table own is);
  rising = grind arith;
  ended = grind arith;
}

module _ {z : Zone} {ts : List Transition} {place : ℕ} {s : Segment} {i : ℕ} {ps : List Piece} {latest : ℤ} (o : AreOpen z ts place s i ps latest) where
  -- the table's last segment may have no end
  pub whole : 0 < length ts → length ts < place → ArePieces z ts 0 place (Once i) ps
  whole some more = grind arith

  -- if the next cut doesn't come after the latest, they cross
  pub crossed_by : (cut : ℤ) → place ≤ length ts → 1 < place → IsCutAt z.types ts place cut → cut ≤ℤ latest → AreCutsCrossed z.types ts
  crossed_by cut n more c less = grind arith

  -- and if it does the last segment's end is added
  module _ (within : place ≤ length ts) (strict : 1 < place → latest <ℤ cut_of ts place s.offset) where
    pub closed : 0 < place → ArePieces z ts 0 place (Once i) (ps ++ (piece (cut_of ts place s.offset) Less ∷ []))
    closed some = record {
      ordered = all_pairs_push (λ (a b : Piece). a.start ≤ℤ b.start) ps _ o.ordered (o.started _ (grind linear));
      most = grind (arith, length_push);
      some = λ _. grind (arith, length_push);
      answers = λ l wide. by_lt_z l (cut_of ts place s.offset) (λ less. grind (linear, at_earlier, o.inside)) (λ from. grind (linear, at_later, o.after));
    }

    -- each segment ends later than the one before
    pub ends_rise : (k : ℕ) → 0 < k → k < place → end_of z.types ts k <ℤ end_of z.types ts (suc k)
    ends_rise k some less = elim (cases_lt (suc k) place) [
      | inl before ↦ o.rising k some before
      | inr here ↦
          let at : suc k ≡ place = omega arith in
          let k_is : place - 1 ≡ k = omega arith in
          rw at (grind (linear, end_before _ ts place _ o.segment.listed))
    ]

  -- two pieces at an entry
  module _ (next : Segment) (p q : Piece) (a : ArePiecesAt ts place s next p q) (is : IsSegment z.types ts place next) where
    -- both cuts lie from the first piece's start to the last one's
    cuts_between : (p.start ≤ℤ cut_of ts place s.offset) × (p.start ≤ℤ cut_of ts place next.offset)
        × (cut_of ts place s.offset ≤ℤ q.start) × (cut_of ts place next.offset ≤ℤ q.start) × (p.start ≤ℤ q.start) × (q.answer ≡ Once next.index)
    cuts_between = grind linear

    -- and each is a cut at that place
    pub cuts_of : IsCutAt z.types ts place p.start × IsCutAt z.types ts place q.start
    cuts_of = ⊎_elim
        (λ gap. (record { segment = s; beside = inl o.segment; is_cut = grind linear }, record { segment = next; beside = inr is; is_cut = grind linear }))
        (λ fold. (record { segment = next; beside = inr is; is_cut = grind linear }, record { segment = s; beside = inl o.segment; is_cut = grind linear })) a

    -- if they come after the latest cut, with them they are the pieces of one segment more
    pub open_more : (top : ℕ) (out : List Piece) → (1 < place → latest <ℤ p.start) → IsTable z ts top → 0 < place → place < top
        → out ≡ (ps ++ (p ∷ [])) ++ (q ∷ []) → AreOpen z ts (suc place) next i out q.start
    open_more top out strict table some own e =
        let b = Once i in
        let one : suc place - 1 ≡ place = omega arith in
        let (ends, starts, end_by, start_by, order, is_next) = cuts_between in
        let by = o.started p.start (grind linear) in
        let by_first = start_by_push ps p q.start (o.started q.start (grind linear)) order in
        let by_all = start_by_push (ps ++ (p ∷ [])) q q.start by_first (omega linear) in
        let rise : Piece → Piece → Type 0 = λ a b. a.start ≤ℤ b.start in
        let joined : (l : ℤ) (x y r : Shown) → r ≡ together x y → IsShownAmong z ts 0 place l x → IsShownAmong z ts place (suc place) l y
        → IsShownAmong z ts 0 (suc place) l r =
        λ l x y r e m n. rw e (shown_joined z ts 0 place (suc place) l x y table.rising (omega arith) (omega arith) m n) in
        let over : (l : ℤ) → IsWide l → cut_of ts place s.offset ≤ℤ l → IsShownAmong z ts 0 place l Less =
        λ l wide from. o.after l wide (omega arith) (λ m. let late = strict m in omega linear) from in
        rw e (record {
          segment = rw one is;
          ordered = all_pairs_push rise _ q (all_pairs_push rise ps p o.ordered by) by_first;
          count = grind (arith, length_push);
          started = λ l h. grind linear;
          last = grind (linear, before_pushed);
          cut = λ m. rw one cuts_of.1;
          unended = λ l j. grind (linear, at_earlier, at_later, o.unended);
          inside = λ l wide until. by_lt_z l p.start
              (λ less. joined l (answer_at b ps l) (Skipped place) _ (grind (linear, at_earlier, o.unended)) (o.inside l wide (λ _. omega linear))
              (shown_before table own is l wide some (omega linear)))
              (λ from. by_lt_z l q.start
              (λ amid. ⊎_elim
              (λ gap. joined l Less (Skipped place) _ (grind (linear, at_earlier, at_later)) (over l wide (grind linear))
              (shown_before table own is l wide some (grind linear)))
              (λ fold. joined l (Once s.index) (Once next.index) _ (grind (linear, at_earlier, at_later)) (grind (linear, at_all, o.inside l wide))
              (shown_inside table own is l wide (grind linear) (grind linear))) a)
              (λ late. joined l Less (Once next.index) _ (grind (linear, at_later)) (over l wide (omega linear))
              (shown_inside table own is l wide (λ _ _. omega linear) (λ m. until (omega arith)))));
          after = λ l wide inner more from. let late = more (omega arith) in joined l Less Less Less refl (over l wide (omega linear))
              (shown_after table own is l wide (omega arith) from);
          rising = λ k s inner. ends_rise (omega arith) (grind linear) k s (omega arith);
          ended = λ m. grind (linear, end_before _ ts place _ o.segment.listed);
        })
