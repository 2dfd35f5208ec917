use Rattle.zonedump_lib.proofs.CitedWords.{flat_map, json_tokens, leap_value, take, ◌++◌, ◌≡◌}
use Rattle.zonedump_lib.proofs.json_text.put_leap_list.Given as goal

abbrev pub invariant-loop-leap : goal.invariant-loop-leap
invariant-loop-leap l =
    record {
      tokens : l.writer.tokens ≡ l.fn.writer.tokens ++ flat_map (λ x. json_tokens (leap_value x)) (take l.leap-index l.leaps);
      before : l.writer.before ≡ l.fn.writer.before;
    }
