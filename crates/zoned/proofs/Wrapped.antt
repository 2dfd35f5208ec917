-- Lemmas for a zone that hands its lookups on to another zone, and wraps the offsets that it gets.
use Rattle.offset_core.specs.{declared.local_result.LocalResult.{LocalResult, TheVariants.{Ambiguous, None as Never, Single}}, LocalResult.{map_of}}
use Rattle.zoned_time.specs.{Choice.{IsOffsetBeforeGap}, Zone.{AreOffsetsFor, SameLaw, home_law}}
use Rattle.zoned.proofs.Words.{Law, Meaning, None, Option, Some, ℤ, ◌≡◌}
use Rattle.std.proofs.Common.{option_map}

-- the outer law is the inner one, with each offset wrapped
pub record IsWrapped {O P : Type 0} {m : Meaning O} {n : Meaning P} (wrap : O → P) (inner : Law m) (outer : Law n) : Type 0 where
  pub seconds : (o : O) → n.seconds (wrap o) ≡ m.seconds o
  pub off : outer.off ≡ inner.off
  pub in_force : (u : ℤ) (o : O) → inner.in_force u o → outer.in_force u (wrap o)
  pub home : (o : O) → SameLaw (home_law m o) inner → SameLaw (home_law n (wrap o)) outer

pub wrapped_wall : {O P : Type 0} {m : Meaning O} {n : Meaning P} (wrap : O → P) (inner : Law m) (outer : Law n) → IsWrapped wrap inner outer
    → (l : ℤ) (offsets : LocalResult O) → AreOffsetsFor inner l offsets → AreOffsetsFor outer l (map_of wrap offsets)
wrapped_wall wrap inner outer w l Never are = record { wall = rw w.off are.wall; in_force = are.in_force; same_home = are.same_home }
wrapped_wall wrap inner outer w l (Single o) are = record {
  wall = rw (w.off, w.seconds o) are.wall;
  in_force = rw (w.seconds o) (w.in_force _ o are.in_force);
  same_home = w.home o are.same_home;
}
wrapped_wall wrap inner outer w l (Ambiguous a b) are = record {
  wall = rw (w.off, w.seconds a, w.seconds b) are.wall;
  in_force = (rw (w.seconds a) (w.in_force _ a are.in_force.0), rw (w.seconds b) (w.in_force _ b are.in_force.1));
  same_home = (w.home a are.same_home.0, w.home b are.same_home.1);
}

pub wrapped_gap : {O P : Type 0} {m : Meaning O} {n : Meaning P} (wrap : O → P) (inner : Law m) (outer : Law n) → IsWrapped wrap inner outer
    → (l : ℤ) (o : Option O) → IsOffsetBeforeGap inner l o → IsOffsetBeforeGap outer l (option_map wrap o)
wrapped_gap wrap inner outer w l None shown = rw w.off shown
wrapped_gap wrap inner outer w l (Some o) before =
    let gap = before.0 in (
      record {
        never = rw w.off gap.never;
        first = gap.first;
        in_zone = gap.in_zone;
        more = rw w.off gap.more;
        least = rw w.off gap.least;
        before = rw (w.off, w.seconds o) gap.before;
      },
      w.in_force _ o before.1,
      w.home o before.2,
    )
