use Rattle.std.proofs.lemmas.Int.{quot-rem}
use Rattle.offset_core.specs.TimeDelta.{nanos_of}
use Rattle.naive_base.proofs.Words.{arith, floors, pos}
use Rattle.naive_base.proofs.datetime.NaiveDateTime.parts_after.Goals as goal

pub returns-clause-value : goal.returns-clause-value
returns-clause-value c =
    let second = c.second_after.ensures in let nanos = c.nanos_after.ensures in
    omega (arith, floors, quot-rem (nanos_of c.args.delta) (pos 1_000_000_000), second.value, nanos.value, second.bound, nanos.least, nanos.greatest)
