use Rattle.tz_write.proofs.Words.{All, IsNameOrNone, fold, take, with_text_of, ◌≡◌}
use Rattle.tz_write.proofs.file.designations.push_texts.Given as goal

abbrev pub invariant-loop-local : goal.invariant-loop-local
invariant-loop-local l = record {
  put : l.designations ≡ fold (with_text_of l.last l.size) l.initial.designations (take l.local-index l.types);
  sound : All (λ t. IsNameOrNone t.name) (take l.local-index l.types);
}
