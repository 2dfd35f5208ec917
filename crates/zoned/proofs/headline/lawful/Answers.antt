use Rattle.zoned_ref.proofs.{Offsets.{offset_within}, Walls.{zone_wall}}
use Rattle.zoned.proofs.Words.{ap, sym, type_once, ◌∙◌}
use Rattle.zoned.proofs.headline.lawful.Goals as goal

pub returns : goal.returns
returns c = record {
  one_law = λ z f g first second u inside.
      let one = first u inside in let other = second u inside in
      one.offset ∙ ap (λ t. t.offset) (type_once z u one.type other.type one.in_force other.in_force) ∙ sym other.offset;
  within_day = λ z off narrow of_zone u inside. offset_within z u (off u) narrow (of_zone u inside);
  answers = zone_wall;
}
