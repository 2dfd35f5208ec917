-- Answers: what is written of what was read is one, every line has one, and the answers to the parts of an input make those to the whole.
use Rattle.std.proofs.lemmas.{Bool.{cases_eq}, List.{map-append, Concat.{flat_map-append}}}
use Rattle.naive_base.{proofs.ForCallers.{date_in_years}, specs.{Stamp.{IsStamp}, declared.date.NaiveDate.{NaiveDate}}}
use Rattle.tz_base.proofs.Decided.{apart, either}
use Rattle.tz_info.proofs.{PosixLaws.{posix_law}, Words.{IfOk, IsOutOfMemory, IsPosixFault, error_number}}
use Rattle.tz_info.specs.{TzFiles.{IsZoneFault, IsZoneFault.{In_file, No_memory}}, declared.zone.time_zone.TimeZone.{TimeZone}}
use Rattle.zoned_ref.proofs.{ForCallers.{choice_covered, zone_has_offsets}, Words.{All, AreOffsetsOf, IsNarrow, IsWide, IsWithinDay, Law, Meaning, in_seconds}}
use Rattle.zoned_ref.proofs.Words.{rule_types}
use Rattle.zoneq_lib.proofs.CitedWords.{All-append, All-cons, All-head, All-nil, All-tail, Answered, Answers, AnswersAfter, AnswersLast, AnswersLine}
use Rattle.zoneq_lib.proofs.CitedWords.{AnswersLines, AnswersQuery, Asks, Choice, Err, Error, HasNoNewline, IfErr, IsBadLine, IsDateOf, IsDayInRange, IsInRange}
use Rattle.zoneq_lib.proofs.CitedWords.{IsKeptFor, IsPosixZone, IsResolved, IsRuleOrNone, IsSplit, IsTzFile, IsValid, IsYearInRange, List, LocalType}
use Rattle.zoneq_lib.proofs.CitedWords.{MatchResult, None, Ok, Option, Query, Reading, Result, Some, Spells, Zone, Zoned, append-nil, append_assoc, arith}
use Rattle.zoneq_lib.proofs.CitedWords.{at_query, behind, calendar_day, codes, data_query, days_in_month, ended_lines, false, file_fault_or_zone}
use Rattle.zoneq_lib.proofs.CitedWords.{file_rule_fits, in_range_or_not, inl, inr, integer, ints, is_leap, lawful, length, length-append, local_time, nat_le}
use Rattle.zoneq_lib.proofs.CitedWords.{next, of_secs, posix_zone_valid, query_line, question, refl, resolve_query, show_query, subst, sym, text_fault_or_zone}
use Rattle.zoneq_lib.proofs.CitedWords.{true, type_decided, wall_decided, wall_query, without_return, ℕ, ℤ, [], ◌&&◌, ◌++◌, ◌-ℤ◌, ◌<◌, ◌∷◌, ◌≡◌, ◌≢◌, ◌≤◌, ◌⊎◌}
use Rattle.zoneq_lib.specs.Answers.{AnswersFile, AnswersResolve, AnswersShow, AnswersText, shown_date_time, shown_refusal, shown_zone}
use Rattle.zoneq_lib.{proofs.ScanLaws.{more_hopeless}, specs.{Questions.{At, Data, Resolve, Show, Text, Wall, text_query}, Runs.{AnswersBefore, BeginsAnswers}}}
use Rattle.tz_base.specs.declared.error.Error.TheVariants as errors

-- the answers to some lines, and then to more
lines_join : (z : Option Zone) (lines : List (List ℕ)) (o : List ℕ) (m : Option Zone) (more : List (List ℕ)) (p : List ℕ) (a : Option Zone)
    → AnswersLines z lines o m → AnswersLines m more p a → AnswersLines z (lines ++ more) (o ++ p) a
lines_join z [] o m more p a h k = grind arith
lines_join z (l ∷ lines) o m more p a h k = grind (arith, lines_join h.1 lines h.2 m more p a h.4 k, append_assoc (h.0 ++ codes "\n") h.2 p)

-- nothing is taken yet
pub answered_none : (z : Option Zone) (b : List ℕ) → HasNoNewline b → Answered z b [] [] z b
answered_none z b h = record { lone = h; each = λ front none kept. grind (arith, append-nil, All-nil) }

module _ (z : Option Zone) (b bytes : List ℕ) (h : HasNoNewline bytes) where
  -- more of a line that has not ended
  pub answered_more : (r : List ℕ) → IsKeptFor r (b ++ bytes) → HasNoNewline r → Answered z b bytes [] z r
  answered_more r kept lone =
      record { lone = lone; each = λ front none begun. grind (arith, more_hopeless, All-nil, All-append (λ c. c ≢ 10) front bytes none h) }

  -- the end of a line
  pub answered_line : (answer : List ℕ) (next : Option Zone) → AnswersLine z (without_return (b ++ bytes)) answer next
      → Answered z b (bytes ++ codes "\n") (answer ++ codes "\n") next []
  answered_line answer next line = record {
    lone = All-nil _;
    each = λ front none begun.
        let cut : IsSplit (front ++ (bytes ++ codes "\n")) ((front ++ bytes) ∷ []) [] =
        grind (arith, append-nil, append_assoc, All-nil, All-append (λ c. c ≢ 10) front bytes none h) in
        let line : AnswersLine z (without_return (front ++ bytes)) answer next = grind arith in
        grind (arith, append-nil);
  }

-- the answers to some bytes, and then to more
pub join : {z : Option Zone} {b xs o : List ℕ} {m : Option Zone} {k ys p : List ℕ} {a : Option Zone} {r : List ℕ} (s : AnswersAfter z b xs o m k)
    → AnswersAfter m s.front ys p a r → AnswersAfter z b (xs ++ ys) (o ++ p) a r
join s t = grind (arith, append_assoc, flat_map-append, All-append HasNoNewline s.pieces t.pieces, map-append without_return s.pieces t.pieces, lines_join)

pub answered_join : {z : Option Zone} {b xs o : List ℕ} {m : Option Zone} {k ys p : List ℕ} {a : Option Zone} {r : List ℕ} → Answered z b xs o m k
    → Answered m k ys p a r → Answered z b (xs ++ ys) (o ++ p) a r
answered_join s t =
    record { lone = t.lone; each = λ front none kept. let first = s.each front none kept in join first (t.each first.front first.cut.last first.kept) }

-- after no beginning
pub from_start : {z : Option Zone} {xs o : List ℕ} {m : Option Zone} {k : List ℕ} → Answered z [] xs o m k → AnswersAfter z [] xs o m k
from_start s = s.each [] (All-nil _) (inl refl)

-- ---- what is kept for the beginning of a line
-- the answer to the last line, by what is kept for it
last_answer : (z : Option Zone) (r front last : List ℕ) → IsKeptFor r front → AnswersLast z r last → AnswersLast z front last
last_answer z r front last (inl same) h = grind arith
last_answer z (c ∷ r) (d ∷ front) last (inr both) h =
    let kept = rw append-nil at (both.1.whole []) in let begun = rw append-nil at (both.0.whole []) in grind arith
last_answer z r front last both h = grind arith

all_answered : (input o : List ℕ) (z : Option Zone) (pieces : List (List ℕ)) (front last : List ℕ) → IsSplit input pieces front
    → AnswersLines None (ended_lines pieces) o z → AnswersLast z front last → Answers input (o ++ last)
all_answered input o z pieces [] last cut answered h = (pieces, [], z, cut, rw (append-nil, h, append-nil) answered)
all_answered input o z pieces (c ∷ front) last cut answered h = grind (arith, lines_join, append-nil)

-- the answers to the ended lines, and to the last one
pub answers_all : {input o : List ℕ} {z : Option Zone} {r : List ℕ} (last : List ℕ) → AnswersAfter None [] input o z r → AnswersLast z r last
    → Answers input (o ++ last)
answers_all last s h = all_answered _ _ _ s.pieces s.front last s.cut s.answered (last_answer _ _ s.front last s.kept h)

-- what is written and kept of what was read
abbrev Sets : Option Zone → Result TimeZone Error → List ℕ → Option Zone → Type 0
Sets before read answer after =
    MatchResult read (λ found. (answer ≡ shown_zone found) × (after ≡ Some found)) (λ fault. (answer ≡ shown_refusal (error_number fault)) × (after ≡ before))

module _ (before : Option Zone) (bytes answer : List ℕ) (after : Option Zone) where
  pub text_answered : (read : Result TimeZone Error) → IfOk read (IsPosixZone bytes) → IfErr read (λ e. IsOutOfMemory e ⊎ IsPosixFault bytes e)
      → IfErr read (λ e. IsOutOfMemory e → (z : Zone) × IsPosixZone bytes z) → Sets before read answer after → AnswersText before bytes answer after
  text_answered (Ok z) ok err there sets = grind arith
  text_answered (Err e) ok err there sets = elim err [
    | inl memory ↦ inr (e, inl (memory, there memory), sets.0, sets.1)
    | inr fault ↦ inr (e, inr (fault, λ z. text_fault_or_zone bytes e z fault), sets.0, sets.1)
  ]

  pub file_answered : (read : Result TimeZone Error) → IfOk read (λ z. IsTzFile bytes z × IsValid z) → IfErr read (IsZoneFault bytes)
      → Sets before read answer after → AnswersFile before bytes answer after
  file_answered (Ok z) ok err sets = grind arith
  file_answered (Err e) ok (In_file f fault) sets = inr (e, grind (arith, file_fault_or_zone bytes e), sets.0, sets.1)
  file_answered (Err e) ok (No_memory p has) sets = inr (e, inl (refl, (p, has)), sets.0, sets.1)

all_or_not : (types : List LocalType) → All (λ t. IsWithinDay t.offset) types ⊎ (All (λ t. IsWithinDay t.offset) types → ⊥)
all_or_not [] = grind arith
all_or_not (t ∷ types) =
    let within = λ (s : LocalType). IsWithinDay s.offset in
    let all = all_or_not types in grind (arith, All-cons within t types, All-head within t types, All-tail within t types)

narrow_or_not : (z : Zone) → IsNarrow z ⊎ (IsNarrow z → ⊥)
narrow_or_not z = grind (arith, all_or_not z.types, all_or_not (rule_types z.rule))

pub show_covered : (z : Zone) (seconds : ℤ) (nanos : ℕ) → IsValid z → IsRuleOrNone z.rule → (answer : List ℕ) × AnswersShow (Some z) seconds nanos answer
show_covered z seconds nanos valid rule = let utc = of_secs seconds nanos in elim (narrow_or_not z) [
  | inl narrow ↦ let stamped : IsStamp utc ⊎ (IsStamp utc → ⊥) = grind (arith, in_range_or_not utc.s) in elim stamped [
    | inl stamp ↦
        let has = zone_has_offsets z valid rule seconds (grind arith) in (_, inr (inr (narrow, stamp, (_, has.1.in_force, refl))))
    | inr none ↦ (_, inr (inl (narrow, none, refl)))
  ]
  | inr wide ↦ (_, inl (wide, refl))
]

pub resolve_covered : (z : Zone) (l : Reading) (choice : Choice) → IsValid z → IsRuleOrNone z.rule → IsInRange l.s
    → (answer : List ℕ) × AnswersResolve (Some z) l choice answer
resolve_covered z l choice valid rule inside = elim (narrow_or_not z) [
  | inl narrow ↦
      let wide : IsWide l.s = (omega (arith, ints, inside.0), omega (arith, ints, inside.1)) in
      let has = choice_covered z l.s choice valid rule narrow wide in
      elim has.2 [
        | inl taken ↦
            (_, inr (narrow, has.0, has.1, inl (record { utc = behind l taken.0; offset = has.0 (l.s -ℤ taken.0) }, grind arith, refl)))
        | inr refused ↦ (_, inr (narrow, has.0, has.1, inr (refused.0, refused.1, refl)))
      ]
  | inr wide ↦ (_, inl (wide, refl))
]

-- what is written of the instant that a choice selects
pub resolved_instant : {O : Type 0} {m : Meaning O} (z : Zone) (law : Law m) (l : Reading) (choice : Choice) (d : Zoned O) → IsNarrow z → AreOffsetsOf z law.off
    → IsResolved law l choice d → AnswersResolve (Some z) l choice (shown_date_time d.utc (m.seconds d.offset))
resolved_instant {O} {m} z law l choice d narrow offsets h =
    inr (narrow, law.off, offsets, inl (in_seconds m.seconds d, grind arith, refl))

-- ---- each line
asks_or_bad : (bytes : List ℕ) → ((query : Query) × Asks bytes query) ⊎ IsBadLine bytes
unfolding query_line
asks_or_bad bytes = let law = lawful query_line bytes in elim (either law) [
  | inl asked ↦ inl (asked.0.0, grind arith)
  | inr fault ↦ inr (λ query asks. apart law (query, []) fault.0 asks fault.1)
]

-- ---- dates and times
date_in_range : (bytes rest : List ℕ) (day : ℤ) → Spells calendar_day bytes day rest → IsDayInRange day
unfolding calendar_day integer next
date_in_range bytes rest day (y, a, year, (m, b, month, (u, c, (first, one, stays), (d, e, number, (exists, value, same))))) =
    rw value (date_in_years y m d (grind arith) (first, grind arith, exists.0, exists.1))

-- what the calendar says of the numbers
pub dated : (y : ℤ) (m d : ℕ) (found : NaiveDate) → IsDateOf y m d (Some found) → (nat_le 1 d && nat_le d (days_in_month (is_leap y) m)) ≡ true
dated y m d found h = grind arith

pub undated : (y : ℤ) (m d : ℕ) → IsYearInRange y → 1 ≤ m → m ≤ 12 → IsDateOf y m d None → (nat_le 1 d && nat_le d (days_in_month (is_leap y) m)) ≡ false
undated y m d year first last none = grind arith

-- only `wall` asks for an instant, and of a local time that it read
pub resolved_in_range : (bytes : List ℕ) (l : Reading) (choice : Choice) → Asks bytes (Resolve l choice) → IsInRange l.s
unfolding query_line question text_query data_query at_query wall_query resolve_query show_query local_time next
resolved_in_range bytes l choice h = grind (arith, date_in_range)

-- ---- answers
-- the zone, if there is one, is valid, and the numbers of its rule are in their limits
abbrev IsGiven : Option Zone → Type 0
IsGiven None = Unit {0}
IsGiven (Some zone) = IsValid zone × IsRuleOrNone zone.rule

query_gives : (z : Option Zone) (query : Query) (answer : List ℕ) (after : Option Zone) → IsGiven z → AnswersQuery z query answer after → IsGiven after
query_gives z (Text text) answer after given told = grind (arith, posix_zone_valid text)
query_gives z (Data bytes) answer after given (inl (inl found)) = subst IsGiven (sym found.3) (found.1.1, file_rule_fits bytes found.0 found.1.0)
query_gives z (Data bytes) answer after given (inl (inr refused)) = grind arith
query_gives z (Data bytes) answer after given (inr without) = grind arith
query_gives z query answer after given told = grind arith

lines_give : (z : Option Zone) (lines : List (List ℕ)) (output : List ℕ) (after : Option Zone) → IsGiven z → AnswersLines z lines output after → IsGiven after
lines_give z [] output after given h = grind arith
lines_give z (line ∷ lines) output after given h = lines_give h.1 lines h.2 after (elim h.3 [
  | inl asked ↦ query_gives z asked.0 h.0 h.1 given asked.2
  | inr bad ↦ subst IsGiven (sym bad.2) given
]) h.4

-- each line has an answer that leaves the zone
query_covered : (z : Option Zone) (line : List ℕ) (query : Query) → IsGiven z → Asks line query → (answer : List ℕ) × AnswersQuery z query answer z
query_covered z line (Text text) given asks = elim (either (posix_law text)) [
  | inl found ↦ (_, inr (errors.OutOfMemory, inl (refl, found), refl, refl))
  | inr refused ↦ (_, inr (refused.0, inr (refused.1, λ found. text_fault_or_zone text refused.0 found refused.1), refl, refl))
]
query_covered z line (Data bytes) given asks = (_, inr (refl, refl))
query_covered (Some zone) line (At seconds) given asks = elim (type_decided zone seconds given.0 given.1) [
  | inl found ↦ (_, (inl (found.0, found.1, refl), refl))
  | inr refused ↦ (_, (inr (refused, refl), refl))
]
query_covered (Some zone) line (Wall local) given asks = let types = wall_decided zone local given.0 given.1 in (_, ((types.0, types.1, refl), refl))
query_covered (Some zone) line (Resolve l choice) given asks =
    let told = resolve_covered zone l choice given.0 given.1 (resolved_in_range line l choice asks) in (told.0, (told.1, refl))
query_covered (Some zone) line (Show seconds nanos) given asks =
    let told = show_covered zone seconds nanos given.0 given.1 in (told.0, (told.1, refl))
query_covered None line query given asks = grind arith

line_covered : (z : Option Zone) (line : List ℕ) → IsGiven z → (answer : List ℕ) × AnswersLine z line answer z
line_covered z line given = elim (asks_or_bad line) [
  | inl asked ↦ let told = query_covered z line asked.0 given asked.1 in (told.0, inl (asked.0, asked.1, told.1))
  | inr bad ↦ (_, inr (bad, refl, refl))
]

lines_covered : (z : Option Zone) (lines : List (List ℕ)) → IsGiven z → (output : List ℕ) × AnswersLines z lines output z
lines_covered z [] given = grind arith
lines_covered z (line ∷ lines) given =
    let first = line_covered z line given in let rest = lines_covered z lines given in (_, (first.0, z, rest.0, first.1, rest.1, refl))

last_covered : (z : Option Zone) (rest : List ℕ) → IsGiven z → (output : List ℕ) × AnswersLast z rest output
last_covered z [] given = grind arith
last_covered z (c ∷ rest) given = let first = line_covered z (c ∷ rest) given in (_, (first.0, z, first.1, refl))

-- every input is cut into lines
after_byte : (c : ℕ) (bytes : List ℕ) (pieces : List (List ℕ)) (rest : List ℕ) → c ≢ 10 → IsSplit bytes pieces rest
    → (pieces' : List (List ℕ)) × (rest' : List ℕ) × IsSplit (c ∷ bytes) pieces' rest'
after_byte c bytes [] rest h cut = grind arith
after_byte c bytes (p ∷ pieces) rest h cut =
    ((c ∷ p) ∷ pieces, rest, grind (arith, All-head HasNoNewline p pieces cut.each, All-tail HasNoNewline p pieces cut.each))

is_cut : (bytes : List ℕ) → (pieces : List (List ℕ)) × (rest : List ℕ) × IsSplit bytes pieces rest
is_cut [] = grind arith
is_cut (c ∷ bytes) =
    let t = is_cut bytes in elim (cases_eq c 10) [ inl newline ↦ ([] ∷ t.0, t.1, grind arith) | inr other ↦ after_byte c bytes t.0 t.1 other t.2 ]

-- answers to a front of the input, of which a part is written, go on to answers to all of it
pub begins_answers : (done left output more : List ℕ) (z : Option Zone) (rest : List ℕ) → Answered None [] done (output ++ more) z rest
    → BeginsAnswers (done ++ left) output
begins_answers done left output more z rest s =
    let first = from_start s in
    let given = lines_give _ _ _ z tt first.answered in
    let cut = is_cut (first.front ++ left) in
    let next = lines_covered z (ended_lines cut.0) given in
    let all = join first (record { pieces = cut.0; front = cut.1; cut = cut.2; kept = inl refl; answered = next.1 }) in
    (more ++ (next.0 ++ _), simp append_assoc at (answers_all _ all (last_covered z cut.1 given).1))

-- answers to the lines before one that could not be answered
pub answers_before : {done output : List ℕ} {z : Option Zone} {rest : List ℕ} (left : List ℕ) → 0 < length left → Answered None [] done output z rest
    → AnswersBefore (done ++ left) output
answers_before left some s = let first = from_start s in grind (arith, length-append first.front left, append_assoc, append-nil, All-nil)
