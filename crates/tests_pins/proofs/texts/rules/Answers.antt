use Rattle.tests_pins.proofs.{Words.{codes, false, new_york_rule, new_york_text, refl, utc_rule, utc_text}, Computed.{texts}, SpelledTexts.{spelled, zone_of}}
use Rattle.tests_pins.proofs.texts.rules.Goals as goal

pub returns : goal.returns
unfolding texts
returns c = record {
  new_york = λ extended. spelled extended new_york_text new_york_rule refl;
  offset_given = λ extended. spelled extended (codes "EST5EDT4,M3.2.0,M11.1.0") new_york_rule refl;
  utc = λ extended. spelled extended utc_text utc_rule refl;
  zone = zone_of _ _ new_york_rule (spelled false new_york_text new_york_rule refl);
}
