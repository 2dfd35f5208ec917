-- The text of a rule, and of a zone: it spells the rule, or gives the zone, and each other one is longer.
use Rattle.std.proofs.{Common.{Decides, decimal, int_eq}, lemmas.Bool.{Decides.Decides-int_eq, le-ltb}}
use Rattle.tz_base.{proofs.RunLaws.all_of, specs.{Grammar.{Grammar, Number, Run, Then}, Names.IsName}}
use Rattle.tz_info.proofs.{
  Words.{IsRuleDay, IsTzText, IsWithinDay, ints, is_letter, is_not_greater, neg_ℤ, nil_from_length, pos, trimmed, unsigned_abs, zone_of_rule, ◌+ℤ◌, ◌<ℤ◌},
  ForCallers.{offset_fits},
}
use Rattle.tz_base.proofs.TrimLaws.{IsSpace, trim_is, trim_whole}
use Rattle.tz_info.specs.{TzGrammar.{clock_max, minus, time_limit}, declared.rule.day.DayForm.{TheVariants.{Julian0, Julian1, MonthWeekday}, DayForm}}
use Rattle.tz_info.specs.declared.rule.day.DayTime.{DayTime}
use Rattle.tz_write.{
  proofs.TextBytes.{AreTextBytes, Begins, Best, Front, Writes, all_others, first_optional, front_cons, front_longer, front_optional, front_then},
  proofs.TextBytes.{front_unless, front_whole, names_are, number_begins, number_front, number_writes, pair_front, pair_writes, pairs_over, no_space},
  proofs.TextBytes.{pairs_rest, two_digits, writes_byte, writes_check, writes_colon, writes_first, writes_here, writes_last, writes_mark, writes_more},
  proofs.TextBytes.{writes_nothing, writes_optional, writes_other, writes_then},
  proofs.Words.{[], AllOf, AreInPairs, Bool, IsRule, IsRuleOrNone, List, LocalType, None, NoneFirst, Option, Some, Spells, TransitionRule, Without, Zone, ap},
  proofs.Words.{append-nil, append_assoc, arith, both_ways, colon, comma, cond, false, greater, inl, inr, is_digit, is_name_byte, length, length-append},
  proofs.Words.{less, list_all, name_of, name_or_none, nat_tests, not, refl, slash, spelled_rule, true, ℕ, ℤ, ◌%◌, ◌&&◌, ◌++◌, ◌/◌, ◌<◌, ◌==◌, ◌↔◌, ◌∙◌},
  proofs.Words.{◌∷◌, ◌≡◌, ◌≤◌},
  specs.Steps.TextPieces.{has_plain_times, spelled_clock, spelled_date, spelled_day, spelled_days, spelled_dst_offset, spelled_minutes, spelled_name},
  specs.Steps.TextPieces.{spelled_offset, spelled_signed, spelled_time},
  specs.Steps.LaidFiles.footer_text,
  specs.WrittenTexts.{AreTimesOf, CanBeSpelled, HasZoneText, IsOfText, IsPlainTime, IsTextTime, IsWrittenText, IsWrittenZone},
}
use Rattle.tz_info.specs.TzGrammar as tz
use Rattle.tz_info.specs.declared.rule.transition_rule.TransitionRule.TheVariants as rules

-- ---- offsets and times of day
-- nothing that goes on with an offset, a day or a time
abbrev Stops : List ℕ → Type 0
Stops rest = NoneFirst is_digit rest × Without colon rest × Without slash rest

clock_begins : (n : ℕ) (rest : List ℕ) → n / 3600 < 1000 → Begins 48 57 (spelled_clock n ++ rest)
unfolding spelled_clock
clock_begins n rest l = grind (arith, append_assoc, number_begins)

-- an offset begins with a digit or a minus
offset_begins : (east : ℤ) (rest : List ℕ) → IsWithinDay east → Begins 45 57 (spelled_offset east ++ rest)
unfolding spelled_offset
offset_begins east rest h = grind (arith, ints, clock_begins)

-- ---- what is written before a rest that ends it
module _ (rest : List ℕ) (stops : Stops rest) where
  minutes_writes : (m s : ℕ) → m ≤ 59 → s ≤ 59 → Writes tz.optional_minutes (spelled_minutes m s) (m, s) rest
  unfolding tz.optional_minutes tz.minutes_seconds tz.seconds
  minutes_writes m s a b = let stop = first_optional is_digit (s == 0) colon _ rest refl stops.0 in
      writes_optional ((m == 0) && (s == 0)) (grind (arith, nat_tests)) stops.1 (λ _. writes_colon (two_digits m _ (omega arith) stop)
      (writes_then (pair_writes (omega arith) stop (omega arith))
      (writes_last (grind (arith, writes_optional, writes_colon, two_digits, pair_writes)) (refl, refl))))

  -- n seconds are z, but for the sign
  module _ (limit n : ℕ) (z : ℤ) (l : n / 3600 ≤ limit) (k : limit < 1000) where
    duration_writes : (negative : Bool) → z ≡ cond negative (neg_ℤ (pos n)) (pos n) → Writes (tz.duration limit negative) (spelled_clock n) z rest
    unfolding spelled_clock tz.duration tz.hours_minutes_seconds
    duration_writes negative v = writes_here (writes_last (writes_then (number_writes (omega arith) (grind (arith, nat_tests)))
        (writes_last (minutes_writes (n / 60 % 60) (n % 60) (omega arith) (omega arith)) (refl, refl))) (grind arith))

    -- a minus, if there is to be one, and a duration, whose sign follows from the minus
    signed_writes : (signs : Bool) (f : Bool → Bool) (negative : Bool) → (signs ≡ false → negative ≡ false)
        → z ≡ cond (f negative) (neg_ℤ (pos n)) (pos n)
        → Writes (Then (tz.time_sign signs) (λ m. tz.duration limit (f m))) (spelled_signed negative n) z rest
    unfolding tz.time_sign tz.sign
    signed_writes true f true may v = writes_then (writes_other (grind arith) (writes_mark refl (writes_nothing refl))) (duration_writes _ v)
    signed_writes true f false may v = let first = clock_begins n rest (omega arith) in writes_first false (grind arith) (duration_writes _ v)
    signed_writes false f true may v = grind arith
    signed_writes false f false may v = writes_first false (refl, refl) (duration_writes (f false) v)

  offset_writes : (east : ℤ) → IsWithinDay east → Writes tz.offset (spelled_offset east) east rest
  unfolding spelled_offset tz.offset tz.time_sign
  offset_writes east h =
      signed_writes 23 _ east (grind (arith, ints)) (omega arith) true not _ (grind arith) (grind (arith, ints))

  time_writes : (extended : Bool) (time : ℤ) → IsTextTime extended time → Writes (tz.time extended) (spelled_time time) time rest
  unfolding spelled_time tz.time
  time_writes extended time h =
      signed_writes (time_limit extended) _ time (grind (arith, ints)) (grind (arith, nat_tests)) extended (λ m. m) _
      (grind (arith, le-ltb)) (grind (arith, ints))

-- ---- the front of bytes that spell the same
abbrev Fronts : {X : Type 0} → Grammar X → X → List ℕ → Type 0
Fronts g x text = (bytes rest : List ℕ) → Spells g bytes x rest → Front text bytes rest

minutes_front : (m s : ℕ) → Fronts tz.optional_minutes (m, s) (spelled_minutes m s)
unfolding tz.optional_minutes tz.minutes_seconds tz.seconds
minutes_front m s _ _ h =
    front_optional colon _ tz.minutes_seconds ((m == 0) && (s == 0)) (λ _ is p. let (x, _, minutes, (y, _, seconds, ends)) = p in
    let after = front_optional colon 0 (Number clock_max) (y == 0) (λ _. pair_front) (λ z. rw z refl) seconds in
    grind (arith, front_then (pair_front is minutes) after)) (grind (arith, nat_tests)) h

hours_front : (h m s : ℕ) → Fronts tz.hours_minutes_seconds (h, m, s) (decimal h ++ spelled_minutes m s)
unfolding tz.hours_minutes_seconds
hours_front h m s _ _ (x, _, hours, ((y, z), _, others, ends)) =
    grind (arith, front_then (number_front {max = clock_max} (omega arith) hours) (minutes_front y z _ _ others))

duration_front : (limit : ℕ) (negative : Bool) (z : ℤ) → Fronts (tz.duration limit negative) z (spelled_clock (unsigned_abs z))
unfolding spelled_clock tz.duration
duration_front limit negative z _ _ h = grind (arith, ints, hours_front)

-- there is a minus if one is needed, and otherwise nothing
sign_front : {text bytes unsigned rest : List ℕ} (signs needed negative : Bool) → Spells (tz.time_sign signs) bytes negative unsigned
    → (needed ≡ true → negative ≡ true) → Front text unsigned rest → Front (cond needed (minus ∷ text) text) bytes rest
unfolding tz.time_sign tz.sign
sign_front signs needed negative h need f = grind (arith, both_ways, front_cons, front_longer)

offset_front : (east : ℤ) → Fronts tz.offset east (spelled_offset east)
unfolding spelled_offset tz.offset tz.time_sign tz.duration
offset_front east _ _ (negative, unsigned, sign, d) =
    sign_front true _ negative sign (let v = d.3.1 in grind (arith, ints)) (duration_front _ _ east _ _ d)

time_front : (extended : Bool) (time : ℤ) → Fronts (tz.time extended) time (spelled_time time)
unfolding spelled_time tz.time tz.duration
time_front extended time _ _ (negative, unsigned, sign, d) =
    sign_front extended _ negative sign (let v = d.3.1 in grind (arith, ints)) (duration_front _ _ time _ _ d)

-- ---- names
letters_decided : (bs : List ℕ) → Decides (list_all is_letter bs) (AllOf is_letter bs)
letters_decided [] = ((λ _. tt), (λ _. refl))
letters_decided (b ∷ bs) = grind (arith, nat_tests, letters_decided bs)

-- letters are above `<`, which comes in front of other names
letters_begin : (bs rest : List ℕ) → 0 < length bs → AllOf is_letter bs → Begins 65 122 (bs ++ rest)
letters_begin [] rest some each = grind arith
letters_begin (b ∷ bs) rest some each = grind arith

run_writes : (p : ℕ → Bool) (name rest : List ℕ) → AllOf p name → AllOf is_name_byte name → NoneFirst p rest → Writes (Run p) name name rest
run_writes p name rest each all none = grind (arith, names_are, pairs_over is_name_byte (λ b h e. grind arith))

abbrev quoted : List ℕ → List ℕ
quoted name = less ∷ name ++ (greater ∷ [])

-- a name of letters is its own text, and any other has marks around it
by_letters : (P : List ℕ → Type 0) (name : List ℕ) → (AllOf is_letter name → P name) → P (quoted name) → P (spelled_name name)
by_letters P name letters others = grind (arith, letters_decided)

name_writes : (name rest : List ℕ) → IsName name → NoneFirst is_letter rest → Writes tz.name (spelled_name name) name rest
unfolding tz.name tz.quoted
name_writes name rest h none = let all = all_of is_name_byte name h.2 in let l = h.0 in
    let others = all_others is_name_byte is_not_greater (λ b h. grind (arith, nat_tests)) name all in
    by_letters (λ s. Writes tz.name s name rest) name (λ each. grind (arith, letters_begin, writes_other, run_writes))
    (writes_mark refl (writes_then (run_writes _ name _ others all refl) (writes_byte refl (writes_nothing refl))))

name_front : (name : List ℕ) → Fronts tz.name name (spelled_name name)
unfolding tz.name tz.quoted
name_front name _ _ (inl (_, is, (text, _, run, (_, end, close, (value, same))))) = rw (value, ← same)
    (record { front = quoted text; whole = grind (arith, append_assoc); best = λ _. grind (arith, length-append) })
name_front name _ _ (inr (_, run)) = grind (arith, letters_decided)

-- a name's text begins with a letter or `<`
name_begins : (name rest : List ℕ) → IsName name → Begins 60 122 (spelled_name name ++ rest)
name_begins name rest h = grind (arith, by_letters, letters_decided, letters_begin)

-- ---- dates
date_writes : (form : DayForm) (rest : List ℕ) → IsRuleDay form → NoneFirst is_digit rest → Writes tz.date (spelled_date form) form rest
unfolding tz.date tz.month_date tz.julian_date tz.numbered_day tz.checked_day
date_writes (Julian1 n) rest h none =
    writes_other (grind arith) (writes_mark refl (writes_here (writes_last (number_writes (omega arith) none) (h, refl, refl))))
date_writes (Julian0 n) rest h none = let first = number_begins n rest (omega arith) in
    writes_other (grind arith) (writes_other (grind arith) (writes_here (writes_last (number_writes (omega arith) none) (h, refl, refl))))
date_writes (MonthWeekday m w d) rest h none =
    writes_mark refl (writes_here (writes_then (number_writes (omega arith) refl) (writes_byte refl
    (writes_here (writes_then (number_writes (omega arith) refl) (writes_byte refl
    (writes_here (writes_last (number_writes (omega arith) none) (h, refl, refl)))))))))

date_front : (form : DayForm) → Fronts tz.date form (spelled_date form)
unfolding tz.date tz.month_date tz.julian_date tz.numbered_day tz.checked_day
date_front form _ _ (inl (_, is, (_, _, month, (_, _, first, (_, _, week, (_, _, second, (_, _, weekday, (_, value, same)))))))) =
    rw (value, ← same) (front_cons is (front_then (number_front (omega arith) month) (front_cons first
    (front_then (number_front (omega arith) week) (front_cons second (number_front (omega arith) weekday))))))
date_front form _ _ (inr (_, inl (_, is, (_, _, number, (_, value, same))))) = rw (value, ← same) (front_cons is (number_front (omega arith) number))
date_front form _ _ (inr (_, inr (_, (_, _, number, (_, value, same))))) = rw (value, ← same) (number_front (omega arith) number)

-- ---- times after dates, and days
-- what is written before a rest that ends it
day_writes : (rest : List ℕ) → Stops rest → (extended : Bool) (d : DayTime) → IsRuleDay d.day → IsTextTime extended d.time
    → Writes (tz.day extended) (spelled_day d) d rest
unfolding tz.day tz.optional_time
day_writes rest stops extended d h t = writes_then (date_writes d.day _ h (grind (arith, nat_tests)))
    (writes_last (writes_optional _ ((Decides-int_eq d.time (pos 7_200)).0) stops.2 (λ _. writes_mark refl (time_writes rest stops extended d.time t)))
    (refl, refl))

day_front : (extended : Bool) (d : DayTime) → Fronts (tz.day extended) d (spelled_day d)
unfolding tz.day tz.optional_time
day_front extended d _ _ (form, _, date, (time, _, clock, ends)) =
    let after = front_optional slash _ (tz.time extended) _ (λ _ is p. front_cons is (time_front extended time _ _ p))
    ((Decides-int_eq time (pos 7_200)).1) clock in
    grind (arith, front_then (date_front form _ _ date) after)

-- a text without extensions has no other times
day_plain : (bytes : List ℕ) (d : DayTime) (rest : List ℕ) → Spells (tz.day false) bytes d rest → IsPlainTime d.time
unfolding tz.day tz.optional_time tz.time tz.time_sign tz.duration
day_plain bytes d rest h = grind (arith, ints, nat_tests)

-- ---- the offset of daylight saving time
-- it is left out if it is an hour more
by_hour : (P : List ℕ → Type 0) (std dst : ℤ) → (dst ≡ std +ℤ pos 3_600 → P []) → P (spelled_offset dst) → P (spelled_dst_offset std dst)
by_hour P std dst hour other = let same = Decides-int_eq dst (std +ℤ pos 3_600) in grind arith

-- the offset has its comma after it
dst_offset_writes : (std dst : ℤ) (rest : List ℕ) → IsWithinDay dst → Writes (tz.dst_offset std) (spelled_dst_offset std dst ++ (comma ∷ [])) dst rest
unfolding tz.dst_offset tz.next_hour tz.given_offset tz.more
dst_offset_writes std dst rest h =
    let first = rw (← append_assoc (spelled_offset dst) (comma ∷ []) rest) at (offset_begins dst (comma ∷ rest) h) in
    by_hour (λ s. Writes (tz.dst_offset std) (s ++ (comma ∷ [])) dst rest) std dst
    (λ v. writes_here (writes_mark refl (rw v (writes_check (let l = h.1 in omega (arith, ints))))))
    (writes_here (writes_other (grind arith) (writes_first tt (grind arith)
    (writes_then (offset_writes _ (grind (arith, nat_tests)) dst h) (writes_first tt (grind arith) (writes_byte refl (writes_nothing refl)))))))

dst_offset_front : {bytes rest : List ℕ} (std dst : ℤ) → Spells (tz.dst_offset std) bytes dst rest → Front (spelled_dst_offset std dst) bytes (comma ∷ rest)
unfolding tz.dst_offset tz.next_hour tz.given_offset tz.more
dst_offset_front std dst h = grind (arith, front_unless, int_eq, offset_front)

-- ---- what a text that spells a rule shows
-- the rule can be spelled, has times that need no extensions if the text has none, and its own text is the shortest
pub record IsRead (extended : Bool) (bytes : List ℕ) (rule : TransitionRule) : Type 0 where
  pub named : CanBeSpelled rule
  pub plain : extended ≡ false → AreTimesOf false rule
  pub best : AreInPairs bytes → Best (spelled_rule rule) bytes

pub rule_read : (extended : Bool) (bytes : List ℕ) (rule : TransitionRule) → IsTzText extended bytes rule → IsRead extended bytes rule
unfolding tz.text tz.rule tz.fixed tz.alternate tz.named tz.days tz.end
rule_read extended bytes rule (name, after, n, (east, end, o, inl (none, (t, _, (fits, is, _), (value, _))))) = rw (value, is) (record {
  named = ((name, assumption), offset_fits after east end o);
  plain = λ _. tt;
  best = front_whole (front_then (name_front _ _ _ n) (rw none at (offset_front _ _ _ o)));
})
rule_read extended bytes rule (name, after, n, (east, end, o, inr (_, (dst_name, at_dst, d, (dst_east, at_days, f, (days, last, said, ends)))))) =
    let (start, at_comma, p, (_, at_end, c, (stop, fin, q, (both, same)))) = said in
    let (_, _, e, (s, _, (s_fits, s_is, _), (t, _, (t_fits, t_is, _), (value, _)))) = ends in
    let none : last ≡ [] = grind arith in
    rw (value, s_is, t_is, both) (record {
      named = ((name, assumption), (dst_name, assumption));
      plain = λ e. (day_plain _ _ _ (rw e at p), day_plain _ _ _ (rw e at q));
      best = front_whole (front_then (name_front _ _ _ n) (front_then (offset_front _ _ _ o) (front_then (name_front _ _ _ d)
          (front_then (dst_offset_front _ _ f) (front_cons refl (front_then (day_front _ _ _ _ p)
          (front_cons c (rw (same ∙ none) at (day_front _ _ _ _ q)))))))));
    })

-- ---- its own text
dst_ends_name : (std dst : ℤ) (rest : List ℕ) → IsWithinDay dst → NoneFirst is_letter (spelled_dst_offset std dst ++ (comma ∷ rest))
dst_ends_name std dst rest h = grind (arith, nat_tests, offset_begins, by_hour (λ s. NoneFirst is_letter (s ++ (comma ∷ rest))))

rule_writes : (extended : Bool) (rule : TransitionRule) → IsRule rule → CanBeSpelled rule → AreTimesOf extended rule
    → Writes (tz.text extended) (spelled_rule rule) rule []
unfolding tz.text tz.rule tz.fixed tz.alternate tz.named tz.days tz.end
rule_writes extended (rules.Fixed t) fits ((name, h), w) times =
    rw h.named (writes_here (writes_then (name_writes name (spelled_offset t.offset ++ []) h.allowed (grind (arith, nat_tests, offset_begins)))
    (writes_last (offset_writes [] (tt, tt, tt) t.offset w) (grind arith))))
rule_writes extended (rules.Alternate a) fits ((m, s), (n, d)) (start, end) =
    let first : name_of a.std ≡ m = ap name_or_none s.named in let second : name_of a.dst ≡ n = ap name_or_none d.named in
    let std = a.std.offset in let dst = a.dst.offset in let tail = spelled_dst_offset std dst ++ spelled_days a in
    let begins = rw (← append_assoc (spelled_name n) tail []) at (name_begins n (tail ++ []) d.allowed) in
    rw (first, second) (writes_here
    (writes_then (name_writes m _ s.allowed (grind (arith, nat_tests, append_assoc, offset_begins)))
    (writes_then (offset_writes _ (grind (arith, nat_tests)) std fits.within.std_offset)
    (writes_more (grind arith)
    (writes_here
    (writes_then (name_writes n _ d.allowed (grind (arith, append_assoc, dst_ends_name)))
    (rw (← append_assoc (spelled_dst_offset std dst) (comma ∷ []) _) (writes_then (dst_offset_writes std dst _ fits.within.dst_offset)
    (writes_last (writes_then (day_writes _ (grind (arith, nat_tests)) extended a.start fits.start_day start)
    (writes_byte refl (writes_last (day_writes [] (tt, tt, tt) extended a.end fits.end_day end) (refl, refl))))
    (tt, [], inl (refl, (refl, refl)), grind arith))))))))))

-- ---- rules
-- it begins with a letter or `<`
pub text_begins : (rule : TransitionRule) → CanBeSpelled rule → Begins 60 122 (spelled_rule rule)
text_begins rule named = grind (arith, name_begins, append_assoc)

-- a rule that a zone can have
module _ (rule : TransitionRule) (fits : IsRule rule) where
  -- some text spells it
  module _ (named : CanBeSpelled rule) where
    pub rule_spelled : (extended : Bool) → AreTimesOf extended rule → IsTzText extended (spelled_rule rule) rule
    rule_spelled extended times = grind (arith, append-nil, rule_writes)

    pub text_are : AreTextBytes (spelled_rule rule) × AreInPairs (spelled_rule rule)
    text_are = grind (arith, append-nil, rule_writes true rule fits named (grind (arith, ints, nat_tests)))

    -- the text has extensions if one without doesn't have room for the times
    pub written : (plain : Bool) → ((plain ≡ true) ↔ AreTimesOf false rule) → IsWrittenText rule (spelled_rule rule) (not plain)
    written plain is = grind (arith, rule_spelled, text_are, rule_read)

    pub text_is : IsWrittenText rule (spelled_rule rule) (not (has_plain_times rule))
    text_is = written _ (grind (arith, ints, nat_tests, both_ways))

    pub text_some : (text : List ℕ) × (needed : Bool) × IsWrittenText rule text needed
    text_some = (_, _, text_is)

  -- that text is written of it
  module _ (text : List ℕ) (extended : Bool) (h : IsWrittenText rule text extended) where
    pub rule_text : (text ≡ spelled_rule rule) × (extended ≡ not (has_plain_times rule))
    rule_text = grind (arith, text_is, rule_read)

    -- a text has extensions if the rule's times need them
    pub extensions : (extended ≡ true) ↔ (¬ (AreTimesOf false rule))
    extensions = grind (arith, rule_spelled, both_ways, rule_read)

-- what a law says of the text of a rule
pub ruleset rule_laws = (extensions, rule_read, text_some)

-- ---- white space at the ends
pairs_before : (bs after : List ℕ) → IsSpace after → AreInPairs (bs ++ after) → AreInPairs bs
pairs_before [] after space h = tt
pairs_before (b ∷ bs) after space h = grind (arith, nat_tests, pairs_before bs after)

pub written_zone : (types : List LocalType) (rule : Option TransitionRule) → IsRuleOrNone rule → HasZoneText types rule
    → IsWrittenZone (zone_of_rule types rule) (footer_text rule)
written_zone types None fits h = grind arith
written_zone types (Some rule) fits h =
    let named = h.1.0 in
    let text = rule_spelled rule fits named false h.1.1 in let first = text_begins rule named in
    let trims = rw append-nil at (trim_whole [] _ [] tt (no_space _ (text_are rule fits named).0) tt) in
    record {
      gives = grind arith;
      pairs = (text_are rule fits named).1;
      shortest = λ other gives pairs.
          let s : IsTzText false (trimmed other) rule = grind arith in
          let (before, after, whole, _, space) = trim_is other in
          let best = (rule_read false _ rule s).best (pairs_before (trimmed other) after space (pairs_rest before _ (rw whole at pairs))) in
          grind (arith, length-append, nil_from_length, append-nil);
    }

pub zone_text_some : (z : Zone) → IsRuleOrNone z.rule → IsOfText z → (text : List ℕ) × IsWrittenZone z text
zone_text_some z fits h = let text = written_zone z.types z.rule fits h.rule in (footer_text z.rule, grind arith)
