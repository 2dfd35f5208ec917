-- Folds: from the last second that shows a local time back to the change that set clocks back.
use Rattle.offset_core.specs.WallAnswer.{IsShownBetween}
use Rattle.tz_info.proofs.{
  SpanLaws.until_less,
  Words.{HasFold, IsInSpan, IsNear, IsSince, IsSpanAt, LocalType, Shows, Some, Span, TypeAt, Zone, ap, by_lt_z, linear, pos, ℤ, ◌+ℤ◌, ◌-ℤ◌, ◌<ℤ◌, ◌≡◌, ◌≤ℤ◌},
  ZoneLaws.type_once,
}
use Rattle.tz_info.specs.Steps.Folds.{AreEndsOfFold, IsBackTo}

-- the seconds of an answer of two types
pub ends_of_fold : (z : Zone) (local first last : ℤ) (a b : LocalType) → IsShownBetween (Shows (TypeAt z) local) a b → first ≡ local -ℤ a.offset
    → last ≡ local -ℤ b.offset
    → AreEndsOfFold z local first last
ends_of_fold z _ _ _ a b several is_first is_last = record { first_type = a; last_type = b; several = several; is_first = omega linear; is_last = omega linear }

same_offset : (z : Zone) (u : ℤ) (s t : LocalType) → TypeAt z u s → TypeAt z u t → s.offset ≡ t.offset
same_offset z u s t a b = ap (λ (x : LocalType). x.offset) (type_once z u s t a b)

-- at `end` clocks show the local time or less
not_more : (z : Zone) (local first last end : ℤ) (t : LocalType) → AreEndsOfFold z local first last → IsBackTo z local first last end → TypeAt z end t
    → (end +ℤ t.offset) ≤ℤ local
not_more z _ _ last end t ends back here = grind (linear, same_offset)

-- a fold's ends, the second at which the clocks go back, and the span there
module _ (z : Zone) (local first last end : ℤ) (s : Span) (ends : AreEndsOfFold z local first last) (back : IsBackTo z local first last end)
    (at : IsSpanAt (TypeAt z) end s) where
  -- the first second doesn't lie in the span of `end`
  pub first_outside : IsSince s.from first → ⊥
  first_outside since =
      let is_first = ends.is_first in
      grind (linear, not_more z _ _ _ end _ ends back at.in_force_then, same_offset, until_less s.until first end)

  -- so that span begins after it
  pub begins_at : (from : ℤ) → s.from ≡ Some from → (first <ℤ from) × (from ≤ℤ end)
  begins_at from is = grind (linear, first_outside)

  -- the ends are near, and the span begins with a change
  module _ (from : ℤ) (before : LocalType) (near_first : IsNear first) (near_last : IsNear last) (is : s.from ≡ Some from)
      (earlier : TypeAt z (from -ℤ pos 1) before) where
    -- from then on clocks show less
    less_from : (u : ℤ) (t : LocalType) → from ≤ℤ u → u <ℤ last → TypeAt z u t → (u +ℤ t.offset) <ℤ local
    less_from u t since until here = by_lt_z u end
        (λ l.
        let begun = begins_at _ is in
        let inside : IsInSpan s u = record { fits = omega linear; since = rw is since; until = until_less _ u end at.inside.until (omega linear) } in
        grind (linear, not_more z _ _ _ end _ ends back at.in_force_then, same_offset z u t _ here (at.span.each u inside)))
        (λ m. back.less u t m until here)

    -- that change is the one looked for, if clocks show the local time or more before it
    pub fold_at : local ≤ℤ ((from -ℤ pos 1) +ℤ before.offset) → HasFold (TypeAt z) local before s.local_time_type from
    fold_at reached =
        let begun = begins_at _ is in
        record {
          first_type = ends.first_type;
          last_type = ends.last_type;
          several = ends.several;
          not_later = omega linear;
          here = at.span.each from (record { fits = omega linear; since = rw is (omega linear); until = until_less _ _ end at.inside.until (omega linear) });
          earlier = earlier;
          reached = reached;
          less = λ u t since until. less_from u t since (omega linear);
        }

    -- else the search goes on before it
    pub goes_back : ((from -ℤ pos 1) +ℤ before.offset) <ℤ local → IsBackTo z local first last (from -ℤ pos 1)
    goes_back less =
        let begun = begins_at _ is in record {
          after_first = by_lt_z first (from -ℤ pos 1) (λ l. l) (λ m.
              let same : ends.several.first ≡ from -ℤ pos 1 = omega linear in
              let offset = same_offset z _ _ _ (rw same at ends.several.at_first.type) earlier in omega linear);
          not_later = omega linear;
          less = λ u t since until here. by_lt_z u from
              (λ l. let same : u ≡ from -ℤ pos 1 = omega linear in let offset = same_offset z _ t _ (rw same at here) earlier in omega linear)
              (λ m. less_from u t m until here);
        }
