use Rattle.std.proofs.lemmas.List.{length-take-le, take_more_set}
use Rattle.offset_core.proofs.Words.{IsAscii, IsUtf8, IsUtf8-append, IsUtf8-from_ascii, [], ap, arith, length, rules, subst, sym, ◌<◌, ◌∷◌}
use Rattle.offset_core.proofs.short_text.ShortText.push.Goals as goal

pub invariant_of-self : goal.invariant_of-self
invariant_of-self c =
    let before = c.self.inside in
    let room : before.len < 48 = omega (arith, length-take-le before.len before.bytes (omega arith), ap length c.self.view_is) in
    let more = take_more_set before.bytes before.len c.args.byte (omega arith) in
    let ascii : IsAscii (c.args.byte ∷ []) = search rules in
    (omega arith, subst IsUtf8 (sym more) (IsUtf8-append _ _ c.self.invariant.1 (IsUtf8-from_ascii _ ascii)))
