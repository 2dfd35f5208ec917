use Rattle.zonedump_lib.proofs.{CitedWords.{arith, difference_value, json_tokens, ◌∙◌}, JsonPutting.{pushed}}
use Rattle.zonedump_lib.proofs.difference_json.put_list.Goals as goal

pub loop-one-preserved : goal.loop-one-preserved
loop-one-preserved c =
    record {
      tokens =
          pushed (λ x. json_tokens (difference_value x)) c.args.found.now c.loop-one.one-index c.one-item.result c.one-item.result
          c.args.writer.now.tokens c.loop-one.writer.tokens c.put_difference.new.writer.tokens (omega arith) c.one-item.is
          c.loop-one.invariant.tokens c.in_ok-put_difference.ensures.tokens;
      before = c.in_ok-put_difference.ensures.before ∙ c.loop-one.invariant.before;
    }
