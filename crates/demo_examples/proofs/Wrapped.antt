-- The law of a zone that is a kept one is that of the kept zone, with its offsets wrapped.
use Rattle.std.proofs.Common.{refl, ◌↔◌}
use Rattle.zoned.proofs.ForCallers.{IsWrapped}
use Rattle.zoned.specs.declared.{KeptZone.{KeptZone}, ZoneOffset.{ZoneOffset}}
use Rattle.demo_examples.specs.{AnyZone.{IsNamed, law_of}, declared.any_zone.AnyOffset.{AnyOffset}}
use Rattle.zoned.specs.KeptZone as kept
use Rattle.demo_examples.specs.declared.any_zone.AnyOffset.TheVariants as offsets
use Rattle.demo_examples.specs.declared.any_zone.AnyZone.TheVariants as zones

both_named : (f g : ZoneOffset → Type 0) → ((o : ZoneOffset) → f o ↔ g o) → (p : AnyOffset) → IsNamed f p ↔ IsNamed g p
both_named f g same offsets.Utc = (λ no. no, λ no. no)
both_named f g same (offsets.Fixed o) = (λ no. no, λ no. no)
both_named f g same (offsets.Named o) = same o

pub named_is_wrapped : (k : KeptZone) → IsWrapped offsets.Named (kept.law_of k) (law_of (zones.Named k))
named_is_wrapped k = record {
  seconds = λ o. refl;
  off = refl;
  in_force = λ u o named. named;
  home = λ o same. record { offsets = same.offsets; in_force = λ u inside p. both_named _ _ (same.in_force u inside) p };
}
