-- Pieces of a rule.
use Rattle.tz_info.proofs.{
  Words.{Alternate, AlternateAt, IsRuleTime, IsSeason, Season, arith, by_lt_z, int_le, int_lt, is_dst_by_one, linear, neg_ℤ, pos, type_when, ℤ, ◌+ℤ◌, ◌-ℤ◌, ◌<ℤ◌, ◌≡◌, ◌≤ℤ◌},
}
use Rattle.tz_info.specs.{Steps.RulePieces.{HasOneAnswer, IsInPiece}, declared.rule.piece.RulePiece.{RulePiece}}

-- two pieces that say the same, the second of which begins before the first one ends or then
pub joined : (a : Alternate) (p q r : RulePiece) → HasOneAnswer a p → HasOneAnswer a q → p.is_dst ≡ r.is_dst → q.is_dst ≡ r.is_dst → r.from ≡ p.from
    → r.until ≡ q.until → q.from ≤ℤ p.until → HasOneAnswer a r
joined a p q r one other same_one same_other from until meet = record {
  each = λ u inside. by_lt_z u p.until
      (λ h. rw (← same_one) (one.each u (rw (← from) inside.0, h)))
      (λ h. rw (← same_other) (other.each u (omega linear, rw (← until) inside.1)));
}

-- on the same side of both moments a year's answer is the same
same_side : (start end u v : ℤ) → int_le start u ≡ int_le start v → int_le end u ≡ int_le end v → is_dst_by_one start end u ≡ is_dst_by_one start end v
same_side start end u v s e = grind linear

-- on the same side of both ends of the rule's years
pub same_years : (u v : ℤ) → IsRuleTime v → int_le (neg_ℤ (pos 67_768_100_504_812_800)) u ≡ int_le (neg_ℤ (pos 67_768_100_504_812_800)) v
    → int_le (pos 67_767_976_170_460_800) u ≡ int_le (pos 67_767_976_170_460_800) v → IsRuleTime u
same_years u v time low high = grind linear

-- seconds of a season on the same side of both moments
pub by_season : (a : Alternate) (s : Season) (p : RulePiece) (v : ℤ) → IsSeason a s → p.is_dst ≡ is_dst_by_one s.turns.start s.turns.end v
    → ((u : ℤ) → IsInPiece p u → IsRuleTime u × (s.from ≤ℤ u) × (u <ℤ s.until) × (int_le s.turns.start u ≡ int_le s.turns.start v)
    × (int_le s.turns.end u ≡ int_le s.turns.end v))
    → HasOneAnswer a p
by_season a s p v season is side = record {
  each = λ u inside.
      let (time, since, until, start, end) = side u inside in
      rw (is, ← same_side s.turns.start s.turns.end u v start end) (season.decided u time (since, until));
}

-- one second
pub of_one : (a : Alternate) (p : RulePiece) → p.until ≡ p.from +ℤ pos 1 → AlternateAt a p.from (type_when a p.is_dst) → HasOneAnswer a p
of_one a p until there = record { each = λ u inside. let same : u ≡ p.from = omega linear in rw same there }

-- a second on the same side of another one as a later second comes later, too
pub same_since : (begin u v : ℤ) → int_le begin u ≡ int_le begin v → begin ≤ℤ v → begin ≤ℤ u
same_since begin u v side h = grind linear
