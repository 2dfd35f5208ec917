use Rattle.zonedump_lib.proofs.{CitedWords.{arith, change_value, json_tokens, ◌∙◌}, JsonPutting.{pushed}}
use Rattle.zonedump_lib.proofs.change_json.put_change_list.Goals as goal

pub loop-change-preserved : goal.loop-change-preserved
loop-change-preserved c =
    record {
      tokens =
          pushed (λ x. json_tokens (change_value x)) c.args.changes.now c.loop-change.change-index c.change-item.result c.change-item.result
          c.args.writer.now.tokens c.loop-change.writer.tokens c.put_change.new.writer.tokens (omega arith) c.change-item.is
          c.loop-change.invariant.tokens c.in_ok-put_change.ensures.tokens;
      before = c.in_ok-put_change.ensures.before ∙ c.loop-change.invariant.before;
    }
