use Rattle.std.proofs.lemmas.Slice.{take-put_mid}
use Rattle.offset_core.proofs.Words.{IsUtf8, IsUtf8-append, List, ap, arith, length, subst, sym, take, ℕ, ◌++◌, ◌+◌, ◌-◌, ◌∙◌}
use Rattle.offset_core.proofs.short_text.ShortTextWrite.write_str.Goals as goal

pub invariant_of-self : goal.invariant_of-self
invariant_of-self c =
    let before = c.self.inside in let bytes = c.as_bytes-bytes.result.now in
    let more = take-put_mid before.len (before.len + length bytes - before.len) before.bytes c.copy_from_slice.new.self (before.len + length bytes)
    (omega arith) (omega arith) in
    let all = more ∙ ap (λ (end : List ℕ). take before.len before.bytes ++ end) c.copy_from_slice.ensures.after in
    (omega arith, subst IsUtf8 (sym all) (IsUtf8-append _ _ c.self.invariant.1 c.as_bytes-bytes.ensures.utf8))
