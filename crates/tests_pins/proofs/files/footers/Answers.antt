use Rattle.tests_pins.proofs.{Words.{None, false, hst_footer, lawful, refl, [], ◌∷◌}, Computed.{files}}
use Rattle.tz_info.specs.Footers.{footer}
use Rattle.tests_pins.proofs.files.footers.Goals as goal

pub returns : goal.returns
unfolding files
returns c = record {
  hst = (lawful (footer false) hst_footer).takes (_, _) refl;
  none = (lawful (footer false) (10 ∷ [])).takes (None, _) refl;
  colon = (lawful (footer false) (10 ∷ 58 ∷ 10 ∷ [])).fails _ refl;
}
