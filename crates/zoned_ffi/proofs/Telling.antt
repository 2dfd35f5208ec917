-- An answer of types, in terms of seconds and offsets.
use Rattle.zoned_ffi.proofs.Words.{IsWallAnswer, IsWallAnswer-map_of, LocalResult, LocalType, Shows, ShowsAt, TypeAt, Zone, arith, ints, told_of, ℤ}

pub told_answer : (z : Zone) (local : ℤ) (types : LocalResult LocalType) → IsWallAnswer (Shows (TypeAt z) local) types
    → IsWallAnswer (ShowsAt z local) (told_of local types)
told_answer z local = IsWallAnswer-map_of (Shows (TypeAt z) local) (ShowsAt z local) _ (λ u t shows. grind (arith, ints))
    (λ u told shows. (shows.1.0, shows.1.1))
