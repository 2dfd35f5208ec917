-- Texts and designations that are not written, since shorter ones do.
use Rattle.tests_pins.proofs.Words.{AreInPairs, AreShortest, Bool, IsNamedIn, IsTzText, IsWrittenText, IsWrittenZone, LocalType, [], arith, codes, false}
use Rattle.tests_pins.proofs.Words.{false≢true, get_or, hst, ints, length, new_york_long, new_york_rule, new_york_text, new_york_zone, refl, suc, sym, true}
use Rattle.tests_pins.proofs.{Words.{utc_rule, utc_text, zero, ℕ, ◌<◌, ◌∷◌, ◌≡◌, ◌⊎◌}, Computed.{texts}, SpelledTexts.{spelled, zone_spelled}}
use Rattle.tz_info.proofs.PosixLaws.{one_rule}

new_york : (extended : Bool) → IsTzText extended new_york_text new_york_rule
unfolding texts
new_york extended = spelled extended new_york_text new_york_rule refl

utc : IsTzText false utc_text utc_rule
unfolding texts
utc = spelled false utc_text utc_rule refl

no_colons : AreInPairs new_york_text
no_colons = grind arith

longer : (new_york_text ≡ new_york_long) ⊎ (length new_york_long < length new_york_text) → ⊥
longer either = grind (arith, ints, length)

pub not_longer : (extended : Bool) → IsWrittenText new_york_rule new_york_long extended → ⊥
not_longer extended w = longer (w.shortest new_york_text (new_york extended) no_colons)

pub not_longer_zone : IsWrittenZone new_york_zone new_york_long → ⊥
unfolding texts
not_longer_zone w = longer (w.shortest new_york_text (zone_spelled new_york_text new_york_zone refl) no_colons)

pub not_extended : IsWrittenText new_york_rule new_york_text true → ⊥
not_extended w = w.needed refl new_york_text (new_york false)

pub not_another : IsWrittenText new_york_rule utc_text false → ⊥
not_another w = let same : utc_rule ≡ new_york_rule = one_rule false utc_text utc_rule new_york_rule utc w.spells in cc

pub two_digits : AreInPairs (codes "FOO5:05:30")
two_digits = grind arith

pub one_digit : AreInPairs (codes "FOO5:5") → ⊥
one_digit h = h.1.1.1.1.0 refl

pub three_digits : AreInPairs (codes "FOO5:005") → ⊥
three_digits h = let pair = h.1.1.1.1.0 refl in false≢true (sym pair.2)

named : (k : ℕ) (d : LocalType) → k < 1 → IsNamedIn (72 ∷ 83 ∷ 84 ∷ 0 ∷ []) (get_or (hst ∷ []) k d)
named zero d place = record { place = 0; stands = record { before = []; after = []; whole = refl; at = refl; ends = search arith }; named = omega arith }
named (suc k) d place = absurd (omega (arith, place))

pub not_shortest : AreShortest (72 ∷ 83 ∷ 84 ∷ 0 ∷ 0 ∷ []) (hst ∷ []) → ⊥
not_shortest h = let at_most = h.shortest (72 ∷ 83 ∷ 84 ∷ 0 ∷ []) named in absurd (omega (arith, at_most))

pub ruleset written_pins = (not_longer, not_longer_zone, not_extended, not_another, two_digits, one_digit, three_digits)
