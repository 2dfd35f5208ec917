use Rattle.zoned_time.proofs.{Words.{DisplaysOnOk, List, Option, Some, ap, reading, reading_text, subst, wall_of, ℕ, [], ◌++?◌, ◌∷◌}, Printed.{at_once, spaced}}
use Rattle.zoned_time.proofs.datetime.print.InstantDisplay.fmt.Goals as goal

pub returns-in-Ok-clause-writes : goal.returns-in-Ok-clause-writes
returns-in-Ok-clause-writes g c =
    let local = reading_text 32 (reading c.local-local.result) in
    let offset = g.O.Display.output c.args.self.now.offset in let took = g.W.Write.write_str_gives in
    let text = spaced local (reading_text 32 (wall_of c.args.self.now)) offset (ap (reading_text 32) c.local-local.ensures) in
    subst (λ (o : Option (List ℕ)). DisplaysOnOk took c.args.f.now c.write_str.result o c.write_str.new.self) text
    (at_once took c.args.f.now c.write_str.new.self c.write_str.result (Some local ++? (Some (32 ∷ []) ++? offset)) c.new-text.result c.write.new.self
    c.as_str.result.now c.new-text.ensures c.as_str.ensures c.in-Ok.ensures.writes c.write_str.ensures.writes)
