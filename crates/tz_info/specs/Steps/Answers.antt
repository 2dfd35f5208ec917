-- Answers of wall clocks, joined.
use Rattle.offset_core.specs.declared.local_result.LocalResult.{LocalResult, TheVariants.{None, Single, Ambiguous}}

-- of two answers, the first of which is that of earlier seconds, the answer of all the seconds
abbrev pub joined : {T : Type 0} → LocalResult T → LocalResult T → LocalResult T
joined None b = b
joined (Single s) None = Single s
joined (Single s) (Single t) = Ambiguous s t
joined (Single s) (Ambiguous t w) = Ambiguous s w
joined (Ambiguous s v) None = Ambiguous s v
joined (Ambiguous s v) (Single t) = Ambiguous s t
joined (Ambiguous s v) (Ambiguous t w) = Ambiguous s w
