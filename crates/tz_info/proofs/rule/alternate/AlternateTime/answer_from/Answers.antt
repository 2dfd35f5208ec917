use Rattle.tz_info.proofs.{
  Fits.fits,
  QuestionLaws.{asked_in_turn, asked_neither, asked_once},
  SeasonLaws.{found_both, found_none, found_one, same_offset, too_early},
  Words.{SFits, int_lt, linear, not, rules, to_z-of_z, true, type_when, w32, w64, ◌-ℤ◌, ◌<ℤ◌, ◌≡◌},
  rule.alternate.AlternateTime.answer_from.Goals.After-offset-last,
}
use Rattle.tz_info.proofs.rule.alternate.AlternateTime.answer_from.Goals as goal

-- what was given fits, and so do the offsets of the rule's types, the greater one first
offsets : (c : After-offset-last) → let a = c.args.self.now in let dst = int_lt c.offset.result c.offset-2.result in
    SFits w64 c.args.from × SFits w64 c.args.local × SFits w32 c.offset-first.result × SFits w32 c.offset-last.result × (dst ≡ int_lt a.std.offset a.dst.offset)
    × (c.offset-first.result ≡ (type_when a dst).offset) × (c.offset-last.result ≡ (type_when a (not dst)).offset)
offsets c = grind (linear, fits)

pub returns : goal.returns
returns c =
    let (ff, fl, f1, f2, is, first, last) = offsets (goal.at.returns c).After-offset-last in
    let one = simp to_z-of_z at c.ask-one.ensures in let both = simp to_z-of_z at c.ask-both.ensures in
    record {
      season = (simp to_z-of_z at c.season_for.ensures) _ is first last;
      found = found_both _ _ _ _ _ _ is (grind (linear, to_z-of_z)) (rw first at one.asked) (rw last at both.asked);
      cost = search rules;
      counted = asked_in_turn _ _ _ _ _ _ _ (grind (linear, to_z-of_z)) (rw first at one.counted) (rw last at both.counted);
      rule = search rules;
    }

pub returns-then-is_early : goal.returns-then-is_early
returns-then-is_early c =
    let (ff, fl, f1, f2, is, first, last) = offsets (goal.at.returns-then-is_early c).After-offset-last in
    let fs : SFits w64 c.second_showing.result = search rules in
    let second = simp to_z-of_z at c.second_showing.ensures.value in
    let early : (c.args.local -ℤ c.offset-last.result) <ℤ c.args.from = omega (linear, to_z-of_z) in
    let (std, dst) = too_early c.args.self.now _ _ _ is (rw last at early) in
    record { season = search rules; found = found_none _ _ _ std dst; cost = search rules; counted = asked_neither _ _ _ true _ std dst; rule = search rules }

pub returns-then-first-last : goal.returns-then-first-last
returns-then-first-last c =
    let (ff, fl, f1, f2, is, first, last) = offsets (goal.at.returns-then-first-last c).After-offset-last in
    let same = same_offset c.args.self.now (int_lt c.offset.result c.offset-2.result) (rw (← first, ← last) (grind (linear, to_z-of_z))) in
    let one = simp to_z-of_z at c.ask-one.ensures in
    record {
      season = search rules;
      found = found_one _ _ _ _ _ same (rw first at one.asked);
      cost = search rules;
      counted = asked_once _ _ _ _ _ _ same (rw first at one.counted);
      rule = search rules;
    }
