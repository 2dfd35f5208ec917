-- The instants for a wall clock, their offsets in plain seconds: there is one right answer.
use Rattle.zoned_time.proofs.Words.{HasOneValue, IsRelocal, Law, LocalResult, Meaning, Reading, ShowsByOffset, Zoned, arith, in_seconds, map_of, numbers}
use Rattle.zoned_time.proofs.Words.{one_wall_answer, ℤ, ◌≡◌}

pub offsets_once : (off : ℤ → ℤ) (l : ℤ) → HasOneValue (ShowsByOffset off l)
offsets_once = grind arith

-- what a zone gives for a wall clock is determined
pub relocal_once : {O : Type 0} {m : Meaning O} (law : Law m) (l : Reading) (a b : LocalResult (Zoned O))
    → IsRelocal law l a → IsRelocal law l b → map_of (in_seconds m.seconds) a ≡ map_of (in_seconds m.seconds) b
relocal_once law l a b h k = grind (numbers, one_wall_answer, offsets_once)
