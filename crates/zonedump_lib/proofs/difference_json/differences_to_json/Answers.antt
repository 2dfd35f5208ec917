use Rattle.zonedump_lib.proofs.{CitedWords.{differences_value, ◌∙◌}, JsonPutting.{differences_shallow, read_back}}
use Rattle.zonedump_lib.proofs.difference_json.differences_to_json.Goals as goal

pub returns : goal.returns
returns c =
    let j = differences_value c.args.old_name.now c.args.new_name.now c.args.period.first c.args.period.last c.args.found.now in
    let (value, printed) = read_back c.into_inner.result.items c.put_zones.new.writer.before j c.put_zones.new.writer.tokens
    (rw c.new-writer.ensures.tokens at c.in_ok-put_zones.ensures.tokens)
    (c.in_ok-put_zones.ensures.before ∙ c.new-writer.ensures.before ∙ c.new.ensures.items) c.into_inner.ensures.items c.into_inner.ensures.reads_back
    (differences_shallow c.args.old_name.now c.args.new_name.now c.args.period.first c.args.period.last c.args.found.now) in
    record { value_is = value; printed = printed }
