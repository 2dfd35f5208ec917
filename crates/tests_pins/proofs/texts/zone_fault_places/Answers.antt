use Rattle.std.proofs.Common.{refl, ℕ, [], ◌∷◌, ◌++◌, ◌≡◌}
use Rattle.tz_info.specs.PosixZones.{IsExtendedFaultPlace, IsPosixFaultPlace}
use Rattle.tests_pins.specs.Texts.{foo_24}
use Rattle.tests_pins.proofs.Computed.{texts}
use Rattle.tests_pins.proofs.texts.zone_fault_places.Goals as goal

spaced : (place : ℕ) → place ≡ 4 → IsPosixFaultPlace (32 ∷ (foo_24 ++ (10 ∷ []))) place
unfolding texts
spaced place h = h

only_spaced : (place : ℕ) → IsPosixFaultPlace (32 ∷ (foo_24 ++ (10 ∷ []))) place → place ≡ 4
unfolding texts
only_spaced place h = h

spaces : (place : ℕ) → place ≡ 3 → IsPosixFaultPlace (32 ∷ 32 ∷ 32 ∷ []) place
unfolding texts
spaces place h = h

only_spaces : (place : ℕ) → IsPosixFaultPlace (32 ∷ 32 ∷ 32 ∷ []) place → place ≡ 3
unfolding texts
only_spaces place h = h

extended : IsExtendedFaultPlace foo_24 3
unfolding texts
extended = refl

only_extended : (place : ℕ) → IsExtendedFaultPlace foo_24 place → place ≡ 3
unfolding texts
only_extended place h = h

pub returns : goal.returns
returns c = record {
  spaced = spaced 4 refl;
  only_spaced = only_spaced;
  spaces = spaces 3 refl;
  only_spaces = only_spaces;
  extended = extended;
  only_extended = only_extended;
}
