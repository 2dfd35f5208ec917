-- Runs: what a stretch of time has of a span.
use Rattle.std.specs.Prelude.{IfSome, if◌then◌else◌}
use Rattle.tz_base.specs.declared.span.Span.{Span}
use Rattle.tz_info.proofs.{
  Words.{Bool, HaveOneTypeFrom, IsNear, IsNextRun, IsOutOfForce, IsRunUntil, LocalType, None, Option, Some, TypeAt, Zone, linear, pos, ℤ, ◌-ℤ◌, ◌<ℤ◌, ◌↔◌, ◌≡◌},
  Words.{◌≤ℤ◌},
  ZoneLaws.type_once,
}
use Rattle.tz_info.specs.Spans.{IsInSpan, IsSince, IsSpan, IsSpanAt, IsUntil}

-- the seconds from `start` on are those of the limit and of the span, and so are those before `end`
abbrev pub StartsBy : Option ℤ → ℤ → ℤ → Type 0
StartsBy from limit start = (u : ℤ) → (start ≤ℤ u) ↔ ((limit ≤ℤ u) × IsSince from u)

abbrev pub EndsBy : Option ℤ → ℤ → ℤ → Type 0
EndsBy until limit end = (u : ℤ) → (u <ℤ end) ↔ ((u <ℤ limit) × IsUntil until u)

pub one_type : (z : Zone) (s : Span) (low high start end : ℤ) → IsNear low → IsNear high → IsSpan (TypeAt z) s → StartsBy s.from low start
    → EndsBy s.until high end → HaveOneTypeFrom (TypeAt z) start end s.local_time_type
one_type z s low _ _ end near near_high is starts ends u from until =
    let (after, since) = (starts u).0 from in let (ahead, before) = (ends u).0 until in
    grind linear

-- the part of a window that has its first second, or its last one
pub next_run : (w : Bool) (s : Span) (low high start end : ℤ) → low <ℤ high → IsInSpan s (if w then low else high -ℤ pos 1) → StartsBy s.from low start
    → EndsBy s.until high end → IsNextRun w low high start end
next_run w s low high start end some here starts ends = let b = starts start in let c = ends (end -ℤ pos 1) in grind linear

-- a span that ends before the limit ends when its type is out of force
turned : (z : Zone) (until : Option ℤ) (limit end : ℤ) (f : LocalType) → IfSome until (IsOutOfForce (TypeAt z) f) → EndsBy until limit end → end <ℤ limit
    → TypeAt z end f → ⊥
turned z None limit end f out ends less here = grind linear
turned z (Some at) limit end f out ends less here = let b = ends at in grind linear

pub run_until : (z : Zone) (s : Span) (at limit end : ℤ) → IsNear at → IsNear limit → at <ℤ limit → IsSpanAt (TypeAt z) at s → EndsBy s.until limit end
    → IsRunUntil (TypeAt z) at limit end
run_until z s at limit end near near_limit ahead here ends =
    let its : (t : LocalType) → TypeAt z at t → s.local_time_type ≡ t = λ t k. type_once z at _ t here.in_force_then k in
    let most = ends (end -ℤ pos 1) in
    record {
      later = grind linear;
      most = grind linear;
      same = λ u from until t k.
          let (before, within) = (ends u).0 until in
          rw (← its t k) (here.span.each u (record { fits = omega linear; since = grind linear; until = within }));
      turns = λ less t k l. turned z _ limit end _ here.span.ends ends less (rw (← its t k) at l);
    }

-- the first second of a near interval, or its last one, is near
pub near_end : (forward : Bool) (low high : ℤ) → IsNear low → IsNear high → low <ℤ high → IsNear (if forward then low else high -ℤ pos 1)
near_end forward low high h k l = grind linear
