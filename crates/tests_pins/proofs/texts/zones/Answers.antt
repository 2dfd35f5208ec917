use Rattle.tests_pins.proofs.{Words.{false, inl, refl, utc_rule, utc_text, [], ◌∷◌}, Computed.{texts}, SpelledTexts.{spelled, zone_of}}
use Rattle.tests_pins.proofs.texts.zones.Goals as goal

pub returns : goal.returns
unfolding texts
returns c = record {
  spaced = zone_of _ _ utc_rule (spelled false utc_text utc_rule refl);
  empty = inl (refl, refl);
  types = refl;
}
