use Rattle.zonedump_lib.proofs.CitedWords.{change_value, flat_map, json_tokens, take, ◌++◌, ◌≡◌}
use Rattle.zonedump_lib.proofs.change_json.put_change_list.Given as goal

abbrev pub invariant-loop-change : goal.invariant-loop-change
invariant-loop-change l =
    record {
      tokens : l.writer.tokens ≡ l.fn.writer.tokens ++ flat_map (λ x. json_tokens (change_value x)) (take l.change-index l.changes);
      before : l.writer.before ≡ l.fn.writer.before;
    }
