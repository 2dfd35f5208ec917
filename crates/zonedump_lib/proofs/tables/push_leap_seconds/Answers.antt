use Rattle.zonedump_lib.proofs.{CitedWords.{ended_line, get_or, leap_text, refl}, JsonPutting.{pushed}}
use Rattle.zonedump_lib.proofs.tables.push_leap_seconds.Goals as goal

pub loop-leap-preserved : goal.loop-leap-preserved
loop-leap-preserved c =
    let leaps = c.args.leaps.now in let i = c.loop-leap.leap-index in
    pushed (λ e. ended_line (leap_text e)) leaps i _ (get_or leaps i _) _ _ _ c.loop-leap-test.true refl c.loop-leap.invariant c.in_ok-push_leap_second.ensures
