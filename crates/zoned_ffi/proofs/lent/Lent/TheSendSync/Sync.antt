use Rattle.zoned_ffi.{proofs.{Words.{IsSync, part_keyless}, lent.Lent.TheSendSync.Send.{send}}, specs.contracts.lent.Lent.{the_row}}

-- a `&` to it is a part of all that it has, and that may cross
pub sync : IsSync the_row
sync = record { shared = λ d b o κ q. part_keyless the_row send q d b o }
