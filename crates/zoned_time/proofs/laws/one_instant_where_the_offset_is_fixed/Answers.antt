use Rattle.zoned_time.proofs.{Words.{arith, law_by_seconds, meaning_by_seconds, one_offset, refl, seconds_of}, Relocals.{fixed_relocal, utc_instant}}
use Rattle.zoned_time.proofs.laws.one_instant_where_the_offset_is_fixed.Goals as goal

pub returns-clause-utc : goal.returns-clause-utc
returns-clause-utc c = grind (arith, utc_instant, fixed_relocal)

pub returns-clause-fixed : goal.returns-clause-fixed
returns-clause-fixed c = λ zone l answer h.
    fixed_relocal {m = meaning_by_seconds seconds_of (λ o _. seconds_of o)} (law_by_seconds (λ _. seconds_of zone)) zone l answer refl
    (λ o e. one_offset o zone e) (λ _ _ _ _. refl) h
