-- The instants that a zone gives are those of the types in force.
use Rattle.offset_core.specs.declared.local_result.LocalResult.TheVariants.{Ambiguous, Single}
use Rattle.zoned_ref.{specs.Instants.{AreInstantsAt, AreTypesFor}, proofs.Words.{HasInstant, LocalResult, LocalType, Option, Reading, SomeIff, Zone, Zoned}}
use Rattle.zoned_ref.proofs.Words.{all_or_none, arith, instant_of, one_wall_answer, refl, type_once, ℤ}

-- the instants of the types in force, if there is only one answer
pub instants_for : (z : Zone) (l : Reading) (types : LocalResult LocalType) (instants : LocalResult (Zoned ℤ))
    → AreTypesFor z l types → AreInstantsAt l types instants → (other : LocalResult LocalType) → AreTypesFor z l other → AreInstantsAt l other instants
instants_for z l types instants wall at other also = grind (arith, one_wall_answer, type_once)

-- the instant of one type, and of two
pub of_one : (l : Reading) (t : LocalType) (a : Option (Zoned ℤ)) → SomeIff a (HasInstant (λ k. k) l t.offset) (instant_of (λ k. k) l t.offset)
    → AreInstantsAt l (Single t) (all_or_none (Single a))
of_one l t a h = record { answers = Single a; asked = (a, tt, h, refl); kept = refl }

pub of_two : (l : Reading) (t s : LocalType) (a b : Option (Zoned ℤ))
    → SomeIff a (HasInstant (λ k. k) l t.offset) (instant_of (λ k. k) l t.offset) → SomeIff b (HasInstant (λ k. k) l s.offset) (instant_of (λ k. k) l s.offset)
    → AreInstantsAt l (Ambiguous t s) (all_or_none (Ambiguous a b))
of_two l t s a b h k = record { answers = Ambiguous a b; asked = (a, b, tt, tt, h, k, refl); kept = refl }
