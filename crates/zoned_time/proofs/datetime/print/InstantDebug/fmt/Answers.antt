use Rattle.zoned_time.proofs.{Words.{DisplaysOnOk, List, Option, Some, ap, reading, reading_text, subst, wall_of, ℕ, ◌++?◌}, Printed.{at_once, joined}}
use Rattle.zoned_time.proofs.datetime.print.InstantDebug.fmt.Goals as goal

pub returns-in-Ok : goal.returns-in-Ok
returns-in-Ok g c =
    let local = reading_text 84 (reading c.local-local.result) in
    let offset = g.O.Debug.debug_output c.args.self.now.offset in let took = g.W.Write.write_str_gives in
    let text = joined local (reading_text 84 (wall_of c.args.self.now)) offset (ap (reading_text 84) c.local-local.ensures) in
    record {
      writes = subst (λ (o : Option (List ℕ)). DisplaysOnOk took c.args.f.now c.write_str.result o c.write_str.new.self) text
          (at_once took c.args.f.now c.write_str.new.self c.write_str.result (Some local ++? offset) c.new-text.result c.write.new.self c.as_str.result.now
          c.new-text.ensures c.as_str.ensures c.in-Ok.ensures.writes c.write_str.ensures.writes);
    }
