use Rattle.tz_info.proofs.{
  AnswerLaws.joined_answer,
  Fits.fits,
  QuestionLaws.asked_by_zone,
  SeasonLaws.season_in,
  TableLaws.start_begun,
  WalkLaws.with_rule,
  Words.{IsStart, length, linear, rules},
}
use Rattle.tz_info.proofs.zone.time_zone.TimeZone.try_rule.Goals as goal

pub returns : goal.returns
returns c =
    let fl = c.ranges.local in
    let ff = c.rule_from.type_inv in
    let valid = rw c.self.view_is at c.self.invariant.valid in
    let z = c.args.self.now in
    let start : IsStart z.transitions z.leaps (length z.transitions) c.rule_from.result =
    rw (c.rule_from.ensures, ← c.self.view_is) (start_begun _ _ _ c.self.invariant.valid c.self.invariant.list c.self.invariant.index.rule_from) in
    let offsets = c.answer_from-season.ensures.offsets in
    record {
      season = grind (linear, fits, season_in);
      found = rw c.joined.ensures (joined_answer _ _ _ _ _ (with_rule _ _ _ _ valid c.requires.rule start c.requires.local offsets)
          c.requires.seen (simp fits at c.answer_from-season.ensures.found));
      cost = search rules;
      counted = asked_by_zone _ _ _ _ valid c.requires.rule start c.requires.local offsets _ _ (simp fits at c.answer_from-season.ensures.counted);
    }
