use Rattle.zonedump_lib.proofs.{CitedWords.{arith, lone_value, ◌∙◌}, JsonPutting.{read_back}}
use Rattle.zonedump_lib.proofs.difference_json.lone_to_json.Goals as goal

pub returns : goal.returns
returns c =
    let (value, printed) = read_back c.into_inner.result.items c.put_lone.new.writer.before (lone_value c.args.path.now) c.put_lone.new.writer.tokens
    (rw c.new-writer.ensures.tokens at c.in_ok-put_lone.ensures.tokens)
    (c.in_ok-put_lone.ensures.before ∙ c.new-writer.ensures.before ∙ c.new.ensures.items) c.into_inner.ensures.items
    c.into_inner.ensures.reads_back (omega arith) in
    record { value_is = value; printed = printed }
