-- What a season's moments decide: the answer of the two seconds that could show a local time, and a rule's gaps.
use Rattle.offset_core.specs.declared.local_result.LocalResult.TheVariants.{None}
use Rattle.std.specs.Prelude.{⊤}
use Rattle.tz_info.proofs.{
  Candidates.{asked_both, one_second, std_or_dst},
  GapLaws.{IsNever, gap_found},
  KindLaws.IsMargin,
  Neighbours.{IsBeside, by_own, decides_dst},
  RuleLaws.{alternate_at, alternate_once, year_found},
  WallSegments.{not_begun, rule_begun},
  Words.{Alternate as AlternateRule, AlternateAt, AreLess, Bool, Change, HasGap, IsAlternateRule, IsAmidFrom, IsAskedLast, IsDecidedIn, IsNear, IsNeverFrom},
  Words.{IsRuleGap, IsSeason, IsSeasonFor, IsSeasonIn, IsSeasonOf, IsStart, IsTableLess, IsValid, IsWallAnswer, IsWide, IsWindowOf, LocalResult, LocalType},
  Words.{MatchOption, None, Option, Season, Shows, Some, TransitionRule, TypeAt, TypeFrom, Zone, ap, arith, by_lt_z, cond, days_at_least, end_in, false},
  Words.{floor_div, floors, int_le, int_lt, ints, is_dst_by_one, length, lies_in, linear, not, one_year, pos, refl, start_in, table_count, true, type_when, year_of},
  Words.{year_start, year_step, ℤ, ⊎_elim, ◌*ℤ◌, ◌+ℤ◌, ◌-ℤ◌, ◌<ℤ◌, ◌≡◌, ◌≢◌, ◌≤ℤ◌},
  ZoneChanges.{from_rule, to_rule},
}
use Rattle.tz_info.specs.declared.rule.transition_rule.TransitionRule.TheVariants.{Alternate}

pub season_made : (a : AlternateRule) (margin year first : ℤ) (s : Season) → IsMargin a margin → first ≡ year_start year
    → s.from ≡ pos 86_400 *ℤ first -ℤ margin → s.until ≡ pos 86_400 *ℤ first +ℤ pos 31_536_000 +ℤ margin
    → s.turns.start ≡ start_in a year → s.turns.end ≡ end_in a year → IsSeason a s
season_made a margin year _ s kept begins from until start end = record {
  decided = λ u within decided.
      let day = floor_div u 86_400 in
      let own = year_of day in
      let found = year_found u day own refl refl within in
      let beside : IsBeside margin year u = omega (arith, floors) in
      let order : int_le (start_in a own) (end_in a own) ≡ int_le (start_in a year) (end_in a year) = ⊎_elim
      (λ e. let step = year_step year in let least = days_at_least year in
      ap (λ y. int_le (start_in a y) (end_in a y)) (one_year day own year found.0 (omega (arith, floors)))) (λ same. same own year) kept.order in
      let dst = is_dst_by_one s.turns.start s.turns.end u in
      alternate_at a u day own dst refl found.0 found.1 (decides_dst _ _ _ own u dst _ _ order (rw (start, end))
      (by_own _ _ _ _ u kept.start kept.end beside) (by_own _ _ _ _ u kept.end kept.start beside));
}

-- the first day of a year lies in it
pub own_start : (year : ℤ) → year_of (year_start year) ≡ year
own_start year =
    let step = year_step year in let least = days_at_least year in
    one_year (year_start year) _ year (lies_in _) (omega (arith, floors))

-- ---- the answer of the two seconds that could show a local time
-- the season decides at both seconds that could show the local time
pub amid : (a : AlternateRule) (s : Season) (from l : ℤ) (dst : Bool) → IsSeasonFor a from l s → IsAmidFrom s from (l -ℤ (type_when a dst).offset)
amid a s _ l dst h = grind linear

-- ---- the type of the greater offset first, of daylight saving time or of standard time
pub greater : (a : AlternateRule) (dst : Bool) → dst ≡ int_lt a.std.offset a.dst.offset → (type_when a (not dst)).offset ≤ℤ (type_when a dst).offset
greater a dst e = grind arith

-- so the season decides at both seconds if it has begun at the one and hasn't ended at the other one
pub within : (a : AlternateRule) (s : Season) (from l : ℤ) (dst : Bool) → IsSeason a s → dst ≡ int_lt a.std.offset a.dst.offset
    → int_le from (l -ℤ (type_when a dst).offset) ≡ true → int_le s.from (l -ℤ (type_when a dst).offset) ≡ true
    → int_lt (l -ℤ (type_when a (not dst)).offset) s.until ≡ true
    → IsSeasonFor a from l s
within a s from l dst season is since begun goes = let g = greater a dst is in grind linear

-- both seconds come too early if the later one does
pub too_early : (a : AlternateRule) (from l : ℤ) (dst : Bool) → dst ≡ int_lt a.std.offset a.dst.offset → (l -ℤ (type_when a (not dst)).offset) <ℤ from
    → ((l -ℤ a.std.offset) <ℤ from) × ((l -ℤ a.dst.offset) <ℤ from)
too_early a from l dst e last = grind linear

pub same_offset : (a : AlternateRule) (dst : Bool) → (type_when a dst).offset ≡ (type_when a (not dst)).offset → a.std.offset ≡ a.dst.offset
same_offset a dst e = grind linear

pub found_none : (a : AlternateRule) (from l : ℤ) → (l -ℤ a.std.offset) <ℤ from → (l -ℤ a.dst.offset) <ℤ from
    → IsWallAnswer (Shows (TypeFrom (Alternate a) from) l) None
found_none a from l first last = grind (linear, std_or_dst)

module _ (a : AlternateRule) (from l : ℤ) (dst : Bool) where
  pub found_one : (one : LocalResult LocalType) → a.std.offset ≡ a.dst.offset
      → IsAskedLast (TypeFrom (Alternate a) from) l (type_when a dst).offset None one → IsWallAnswer (Shows (TypeFrom (Alternate a) from) l) one
  found_one one same asked =
      let only : (u : ℤ) (t : LocalType) → Shows (TypeFrom (Alternate a) from) l u t → u ≡ l -ℤ (type_when a dst).offset =
      λ u t s. let e = one_second a from l same u t s in grind arith in grind linear

  pub found_both : (one both : LocalResult LocalType) → dst ≡ int_lt a.std.offset a.dst.offset → a.std.offset ≢ a.dst.offset
      → IsAskedLast (TypeFrom (Alternate a) from) l (type_when a dst).offset None one
      → IsAskedLast (TypeFrom (Alternate a) from) l (type_when a (not dst)).offset one both → IsWallAnswer (Shows (TypeFrom (Alternate a) from) l) both
  found_both _ _ is other first last = asked_both _ l _ _ _ _ (grind arith) (λ u t s. let o = std_or_dst a t from l u s in grind linear) first last

-- ---- a rule's gaps: if a season's moments decide at both seconds and neither shows the local time, one moment lies between them
-- ---- the moment between two seconds
-- at v it is daylight saving time as `dst` says and at the earlier second u not, and so up to the moment
turns : (start end u v : ℤ) (dst : Bool) → u <ℤ v → is_dst_by_one start end u ≡ not dst
    → is_dst_by_one start end v ≡ not (not dst) → let moment = cond dst start end in (u <ℤ moment) × (moment ≤ℤ v)
    × ((w : ℤ) → u ≤ℤ w → w <ℤ moment → is_dst_by_one start end w ≡ not dst) × (is_dst_by_one start end moment ≡ dst)
turns _ end u v dst h a b = grind linear

-- ---- the types there
other : (b dst : Bool) → (b ≡ dst → ⊥) → b ≡ not dst
other b dst h = grind arith

at : (a : AlternateRule) (s : Season) (u : ℤ) (dst : Bool) → IsSeason a s → IsNear u → IsDecidedIn s u → is_dst_by_one s.turns.start s.turns.end u ≡ dst
    → AlternateAt a u (type_when a dst)
at a s u dst season near decided e = rw e at (season.decided u (omega (linear, near)) decided)

-- at the one that would show it by the one type the other one is in force
other_at : (a : AlternateRule) (s : Season) (from l : ℤ) (dst : Bool) → IsSeasonFor a from l s → IsNear (l -ℤ (type_when a dst).offset) → IsNeverFrom a from l
    → is_dst_by_one s.turns.start s.turns.end (l -ℤ (type_when a dst).offset) ≡ not dst
other_at a s _ l dst h near never =
    let u = l -ℤ (type_when a dst).offset in let k = amid a s _ l dst h in
    other _ dst (λ e. never u (type_when a dst) near k.since (at a s u dst h.season near k.decided e)
    (omega linear))

near_by : (a : AlternateRule) (l : ℤ) (dst : Bool) → IsAlternateRule a → IsWide l → IsNear (l -ℤ (type_when a dst).offset)
near_by a l true rule wide = grind linear
near_by a l false rule wide = grind linear

-- ---- the gap at the moment from which on the type of the greater offset is in force, since its second comes first
pub gap_at : (a : AlternateRule) (s : Season) (from l : ℤ) (dst : Bool) → IsAlternateRule a → IsWide l → dst ≡ int_lt a.std.offset a.dst.offset
    → IsSeasonFor a from l s → IsNeverFrom a from l
    → IsRuleGap a from l (record { at = cond dst s.turns.start s.turns.end; before = type_when a (not dst); after = type_when a dst })
gap_at a s from l dst rule wide is h never =
    let order = greater a dst is in
    let u = l -ℤ (type_when a dst).offset in let v = l -ℤ (type_when a (not dst)).offset in
    let amid_u = amid a s _ l dst h in let amid_v = amid a s from l (not dst) h in
    let since = amid_u.since in let near_u = near_by a l dst rule wide in let near_v = near_by a l _ rule wide in
    let at_u = other_at a s _ l dst h near_u never in let at_v = other_at a s _ l _ h near_v never in
    by_lt_z u v
    (λ less.
    let (later, most, before, here) = turns _ _ u v dst less at_u at_v in
    let moment = cond dst s.turns.start s.turns.end in
    let near : (w : ℤ) → u ≤ℤ w → w ≤ℤ v → IsNear w = λ w h k. omega (linear, near_v) in
    let lesser : (w : ℤ) → u ≤ℤ w → w <ℤ moment → AlternateAt a w (type_when a (not dst)) =
    λ w k m. at a s w _ h.season (near w k (omega linear)) (omega linear) (before w k m) in
    record {
      near = near _ (omega linear) most;
      near_before = near _ (omega linear) (omega linear);
      since = omega linear;
      before = lesser (moment -ℤ pos 1) (omega linear) (omega linear);
      after = at a s _ dst h.season (near _ (omega linear) most) (omega linear) here;
      more = omega linear;
      less = λ w f since_w k is. by_lt_z w u
          (λ b. let e : f.offset ≤ℤ (type_when a dst).offset = rw is.shown (grind linear) in omega linear)
          (λ b. rw (← alternate_once a w _ f (lesser w b k) is) (omega linear));
    })
    (λ not_less. absurd (never u (type_when a (not dst)) near_u since (at a s u _ h.season near_u amid_u.decided at_u) (omega linear)))

-- ---- of a zone with the rule
-- the season of the rule is the zone's
pub season_in : (z : Zone) (rule : TransitionRule) (from l : ℤ) (s : Option Season) → z.rule ≡ Some rule
    → IsStart z.transitions z.leaps (length z.transitions) from → MatchOption s ⊤ (IsSeasonOf (Some rule) from l) → MatchOption s ⊤ (IsSeasonIn z l)
season_in z _ _ l None is start h = h
season_in z rule from l (Some s) is start h = (from, start, rw is h)

-- the gap of a season is the zone's, if clocks show less before the rule begins, and the zone never shows the local time
pub gap_by_season : (z : Zone) (a : AlternateRule) (l low high : ℤ) (s : Season) (c : Change) → IsValid z → z.rule ≡ Some (Alternate a) → IsSeasonIn z l s
    → IsNever z l → IsWindowOf z l l low high → IsTableLess z l
    → ((from : ℤ) → IsSeasonFor a from l s → IsNeverFrom a from l → IsRuleGap a from l c) → HasGap (TypeAt z) l c.before c.after c.at
gap_by_season z a l low _ s c valid rule (from, start, season) never reach all made =
    let by : (u : ℤ) (t : LocalType) → IsNear u → from ≤ℤ u → AlternateAt a u t → TypeAt z u t =
    λ u t near h k. from_rule z a u t rule valid ((rule_begun z u _ valid near start).1 h) k in
    let g = made from (rw rule at season) (λ u t near h k shown. never u t (record { fits = omega linear; type = by u t near h k; shown = shown })) in
    let since = g.since in
    let count : table_count z ≡ length z.transitions = rw rule in
    let less : AreLess z l (c.at -ℤ pos 1) = λ u near before t k. by_lt_z u from
    (λ h. let m = (not_begun z _ _ u valid start near).1 h in all u t near (omega arith) k)
    (λ h. g.less u t h (omega linear) (to_rule z a u t rule valid ((rule_begun z u _ valid near start).1 h) k)) in
    gap_found z l low _ _ _ _ never reach g.near less (by c.at c.after g.near (omega linear) g.after) g.more
    (by (c.at -ℤ pos 1) c.before g.near_before since g.before)

-- the seconds of a year
pub ruleset of_year = (ints, floors, own_start)
