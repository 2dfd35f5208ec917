-- The laws of TZ strings: what they spell, and what they say of a reader; the zone of a string; that its numbers are in their limits.
use Rattle.tz_base.specs.{Refusals.{LocalTimeType as BadType}, declared.{error.Error.TheVariants.{LocalTimeType}, parse_error.ParseError.{ParseError}}}
use Rattle.tz_info.proofs.{
  Words.{Bool, DayForm, Decided, Err, Error, Gives, IfErr, IfOk, IsNameOrNone, IsOkAnd, IsOutOfMemory, IsPosixFault, IsPosixZone, IsRule, IsRuleDay},
  Words.{IsRuleOrNone, IsTextFault, IsTzFile, IsTzText, IsUtOffset, IsValid, IsWithinDay, IsWithinWeek, List, LocalType, MatchResult, None, Ok, Option, Result},
  Words.{Some, Spells, TransitionRule, Zone, [], alternate, apart, arith, checked, date, day, days, dst_offset, duration, end, error_number, expected_of_name},
  Words.{expected_of_type, false, fault_low, fault_once, fixed, given_offset, inl, inr, is_name, julian_date, lawful, length, like, linear, made, month_date},
  Words.{name_test, named, named_type, next_hour, nil_from_length, offset, optional_time, plain_zone, pos, posix_zone, refl, rule, rule_in, said, sym, text},
  Words.{time, trimmed, true, value_once, ℕ, ℤ, ◌==◌, ◌>>=◌, ◌∙◌, ◌∷◌, ◌≡◌, ◌≢◌, ◌≤◌},
  ZoneLaws.zone_of_rule_valid,
}
use Rattle.tz_info.specs.{
  Footers.{footer, footer_text, optional_footer},
  PosixZones.{IsExtendedFaultPlace, IsExtendedZone, IsPlaced, IsPosixFaultPlace},
  Steps.Spelled.{IsParsed, IsTrimmedRule, rule_of},
  TzFiles.{contents, tz_file},
  TzGrammar.{checked_day, numbered_day, text_fault_position},
  declared.rule.reader.text.Spelled.{Spelled},
}

pub text_ends : (extended : Bool) (bytes : List ℕ) (r : TransitionRule) (rest : List ℕ) → Spells (text extended) bytes r rest → rest ≡ []
unfolding text rule fixed alternate named end
text_ends extended bytes r rest h = grind linear

-- what is read of all bytes is what they spell, or their fault
pub spelled_law : (extended : Bool) (text : List ℕ)
    → Decided TransitionRule (rule_in extended text) (IsTzText extended text) (IsTextFault extended text)
unfolding rule_in
spelled_law extended bytes = said (made (λ p. p.0) (lawful (text _) bytes))
    (λ rule h. rw h.2 at (rw (text_ends _ _ _ _ h.1) at h.1))
    (λ rule h. ((rule, []), h, refl))

-- the bytes of a TZ string, with or without the extension
module _ (extended : Bool) (bytes : List ℕ) where
  -- a text with a fault spells no rule, and has no other fault
  pub refused_or_spelled : (e : Error) (r : TransitionRule) → IsTextFault extended bytes e → IsTzText extended bytes r → ⊥
  refused_or_spelled e r fault spelled = apart (spelled_law _ bytes) r e spelled fault

  pub one_fault : (d e : Error) → IsTextFault extended bytes d → IsTextFault extended bytes e → d ≡ e
  one_fault = fault_once (spelled_law _ bytes)

  -- it is not running out of memory
  pub text_low : (e : Error) → IsTextFault extended bytes e → error_number e ≤ 16
  text_low = fault_low (spelled_law _ bytes)

  -- no bytes spell two rules
  pub one_rule : (a b : TransitionRule) → IsTzText extended bytes a → IsTzText extended bytes b → a ≡ b
  one_rule = value_once (spelled_law _ bytes)

  -- ---- what a reader of a whole text answers
  pub found_by : (r : Result Spelled ParseError) → IsParsed extended bytes r → IfOk r (λ s. IsTzText extended bytes (rule_of s))
  found_by r g = let d = spelled_law extended bytes in grind arith

  pub only_by : (r : Result Spelled ParseError) → IsParsed extended bytes r → (rule : TransitionRule) → IsTzText extended bytes rule
      → IsOkAnd r (λ s. rule_of s ≡ rule)
  only_by r g rule h = let d = spelled_law extended bytes in grind arith

  pub fault_by : (r : Result Spelled ParseError) → IsParsed extended bytes r → IfErr r (λ e. IsTextFault extended bytes e.error)
  fault_by r g = let d = spelled_law extended bytes in grind arith

-- the test of a name says whether a type can have it
pub named_by : (name : List ℕ) (dst : Bool) (offset : ℤ) (r : Result LocalType Error)
    → MatchResult r (λ t. IsUtOffset offset × IsNameOrNone (Some name) × (t ≡ named_type name dst offset))
    (λ e. (e ≡ LocalTimeType (expected_of_type offset (Some name))) × ¬ (IsUtOffset offset × IsNameOrNone (Some name))) → IsUtOffset offset
    → Gives (λ t. t) r (checked (is_name name) (BadType (expected_of_name name)) (named_type name dst offset))
named_by name dst offset r h u = let e = (name_test name).decides in grind arith

-- ---- zones
unfoldable pub zone_in : List ℕ → Result Zone Error
zone_in [] = Ok (plain_zone (pos 0))
zone_in (b ∷ bs) = rule_in false (trimmed (b ∷ bs)) >>= λ rule. Ok (posix_zone rule)

pub posix_law : (text : List ℕ) → Decided Zone (zone_in text) (IsPosixZone text) (IsPosixFault text)
unfolding zone_in
posix_law [] = grind arith
posix_law (b ∷ bs) = like (made posix_zone (spelled_law _ _))
    (λ z h. inr (record { some = λ e. cc; rule = h.0; spells = h.1; zone = sym h.2 }))
    (λ z h. elim h [ inl a ↦ cc | inr a ↦ (a.rule, a.spells, sym a.zone) ])
    (λ n f. ((λ e. cc), f))
    (λ n f. f.1)

-- ---- what a reader answers
module _ (text : List ℕ) where
  pub one_zone : (y z : Zone) → IsPosixZone text y → IsPosixZone text z → y ≡ z
  one_zone = value_once (posix_law _)

  pub one_posix_fault : (d e : Error) → IsPosixFault text d → IsPosixFault text e → d ≡ e
  one_posix_fault = fault_once (posix_law _)

  pub fault_or_zone : (e : Error) (z : Zone) → IsPosixFault text e → IsPosixZone text z → ⊥
  fault_or_zone e z fault zone = apart (posix_law _) z e zone fault

  pub posix_low : (e : Error) → IsPosixFault text e → error_number e ≤ 16
  posix_low = fault_low (posix_law _)

  pub not_empty : (b : Bool) → b ≡ (length text == 0) → b ≡ false → text ≢ []
  not_empty b h e k = grind arith

  pub is_empty : (b : Bool) → b ≡ (length text == 0) → b ≡ true → text ≡ []
  is_empty b h e = nil_from_length text (grind arith)

  pub zone_read : (s : Spelled) → text ≢ [] → IsTrimmedRule text (Ok s) → IsPosixZone text (posix_zone (rule_of s))
  zone_read s some read = inr (record { some = some; rule = rule_of s; spells = (spelled_law _ _).takes _ read.0; zone = refl })

  pub fault_read : (e : Error) → text ≢ [] → rule_in false (trimmed text) ≡ Err e → IsPosixFault text e
  fault_read e some read = (some, (spelled_law _ _).fails e read)

  -- a fault has its place
  pub fault_placed : (e : ParseError) → IsPosixFault text e.error → IsTrimmedRule text (Err e) → IsPlaced (IsPosixFaultPlace text) e
  fault_placed e fault h = grind (arith, posix_low)

  -- it has one place, in the text or at its end
  pub one_place : (a b : ℕ) → IsPosixFaultPlace text a → IsPosixFaultPlace text b → a ≡ b
  one_place a b p q = p ∙ sym q

pub string_placed : (bytes : List ℕ) (e : ParseError) → IsTextFault true bytes e.error → e.position ≡ Some (text_fault_position true bytes)
    → IsPlaced (IsExtendedFaultPlace bytes) e
string_placed bytes e fault place = grind (arith, text_low)

-- a string with the extensions has the zone of the rule that is read of it, and no other, or a fault
module _ (bytes : List ℕ) where
  pub extended_read : (rule : TransitionRule) → rule_in true bytes ≡ Ok rule → IsExtendedZone bytes (posix_zone rule)
  extended_read rule read = (rule, (spelled_law _ _).takes rule read, refl)

  pub extended_fault : (e : Error) → rule_in true bytes ≡ Err e → IsTextFault true bytes e
  extended_fault = (spelled_law _ _).fails

  pub extended_law : Decided Zone (rule_in true bytes >>= λ rule. Ok (posix_zone rule)) (IsExtendedZone bytes) (IsTextFault true bytes)
  extended_law = said (made posix_zone (spelled_law _ _)) (λ z h. (h.0, h.1, sym h.2)) (λ z h. (h.0, h.1, sym h.2))

-- running out of memory is reported only if there is a zone
pub zone_memory : (P : Zone → Type 0) (z : Zone) (r : Result Zone ParseError) → P z → IfErr r (λ e. IsOutOfMemory e.error → (y : Zone) × P y)
zone_memory P z r is = grind arith

-- what a reader of the zone of a text needs
pub ruleset string_answers = (extended_fault, string_placed, text_low)

pub ruleset posix_answers = (fault_or_zone, fault_placed, fault_read, is_empty, not_empty, one_zone, posix_low, zone_read)

-- ---- the numbers of a rule are in their limits: offsets and times
pub offset_fits : (bytes : List ℕ) (z : ℤ) (rest : List ℕ) → Spells offset bytes z rest → IsWithinDay z
unfolding offset duration
offset_fits bytes z rest h = grind linear

time_fits : (extended : Bool) (bytes : List ℕ) (z : ℤ) (rest : List ℕ) → Spells (optional_time extended) bytes z rest → IsWithinWeek z
unfolding optional_time time duration
time_fits extended bytes z rest h = grind linear

dst_offset_fits : (std : ℤ) (bytes : List ℕ) (z : ℤ) (rest : List ℕ) → IsWithinDay std → Spells (dst_offset std) bytes z rest → IsWithinDay z
unfolding dst_offset next_hour given_offset
dst_offset_fits std bytes z rest w h = grind (linear, offset_fits)

-- ---- days
date_fits : (bytes : List ℕ) (form : DayForm) (rest : List ℕ) → Spells date bytes form rest → IsRuleDay form
unfolding date month_date julian_date numbered_day checked_day
date_fits bytes form rest h = grind linear

-- ---- the whole
pub text_rule_fits : (extended : Bool) (bytes : List ℕ) (r : TransitionRule) → IsTzText extended bytes r → IsRule r
unfolding text rule fixed alternate named days day
text_rule_fits extended bytes r h = grind (linear, offset_fits, dst_offset_fits, date_fits, time_fits)

-- ---- a string's zone, and the rule of a footer
-- types and a rule, without transitions and leap seconds, make a zone if there is a type
pub posix_zone_valid : (text : List ℕ) (zone : Zone) → IsPosixZone text zone → IsValid zone × IsRuleOrNone zone.rule
posix_zone_valid text zone h = grind (arith, zone_of_rule_valid, text_rule_fits)

-- the rule of a footer is that of some text
abbrev pub IsOfText : Bool → Option TransitionRule → Type 0
IsOfText extended (Some rule) = (bytes : List ℕ) × IsTzText extended bytes rule
IsOfText extended None = Unit {0}

pub in_footer : (extended : Bool) (footer : Option (List ℕ)) (bytes : List ℕ) (r : Option TransitionRule) (rest : List ℕ)
    → Spells (optional_footer extended footer) bytes r rest → IsOfText extended r
unfolding optional_footer footer footer_text
in_footer extended footer bytes r rest h = grind (arith, text_ends)

pub file_rule_fits : (bytes : List ℕ) (zone : Zone) → IsTzFile bytes zone → IsRuleOrNone zone.rule
unfolding tz_file contents
file_rule_fits bytes zone (p, _, _, (_, _, _, (_, _, _, (r, _, k, (value, _))))) =
    let rule = in_footer p.extended p.footer _ r _ k in rw value (grind (arith, text_rule_fits))
