-- The string of a rule, by what was found of it.
use Rattle.zoned_ffi.{proofs.Words.{List, None, Option, Some, TransitionRule, sym, ℕ, [], ◌≡◌}, specs.Texts.{IsRuleString}}
use Rattle.std.specs.Prelude.{Bool}
use Rattle.tz_write.specs.WrittenTexts.{IsUnspelled, IsWrittenText}

pub none_by : (found : Option TransitionRule) (text : List ℕ) → None ≡ found → text ≡ [] → IsRuleString found text
none_by found text is empty = rw (sym is, empty) IsRuleString.no_rule

pub unspelled_by : (found : Option TransitionRule) (rule : TransitionRule) (text : List ℕ) → Some rule ≡ found → IsUnspelled rule → text ≡ []
    → IsRuleString found text
unspelled_by found rule text is unspelled empty = rw (sym is, empty) (IsRuleString.unspelled rule unspelled)

pub spelled_by : (found : Option TransitionRule) (rule : TransitionRule) (text : List ℕ) (extended : Bool) → Some rule ≡ found
    → IsWrittenText rule text extended → IsRuleString found text
spelled_by found rule text extended is written = rw (sym is) (IsRuleString.spelled rule text extended written)
