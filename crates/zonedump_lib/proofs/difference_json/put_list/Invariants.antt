use Rattle.zonedump_lib.proofs.CitedWords.{difference_value, flat_map, json_tokens, take, ◌++◌, ◌≡◌}
use Rattle.zonedump_lib.proofs.difference_json.put_list.Given as goal

abbrev pub invariant-loop-one : goal.invariant-loop-one
invariant-loop-one l =
    record {
      tokens : l.writer.tokens ≡ l.fn.writer.tokens ++ flat_map (λ x. json_tokens (difference_value x)) (take l.one-index l.found);
      before : l.writer.before ≡ l.fn.writer.before;
    }
