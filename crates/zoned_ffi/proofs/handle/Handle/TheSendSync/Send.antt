use Rattle.std.specs.declared.{alloc.Global.{Global}, option.Option.{Option, TheVariants.{None, Some}}}
use Rattle.std_alloc.proofs.SendSync.{lies, quiet}
use Rattle.zoned_ffi.proofs.Words.{IsSend, Keyless, Ptr, RawPtr, exits_of, fields, held, lone, owning_send, sendable, shape, shared_row, struct_send, to}
use Rattle.zoned_ffi.specs.contracts.handle.Handle.{the_row, the_type}
use mir.Raw.{raw}
use Rattle.std.proofs.Crossing as crossing
use Rattle.std.proofs.alloc.Global.TheSendSync as heap
use Rattle.tz_info.proofs.zone.time_zone.TimeZone.TheSendSync as zone_crosses
use Rattle.tz_info.specs.contracts.zone.time_zone.TimeZone as zone

a_share : IsSend shared_row
a_share = crossing.Arc-send zone.the_row zone_crosses.the_send zone_crosses.the_sync

held_keyless : (a : Global) (p : Ptr) (k : Option shared_row.Denot) → Keyless (held shared_row a p k)
held_keyless a p None = λ e. tt
held_keyless a p (Some x) = (lies shared_row a_share p x, crossing.frees.frees a (raw (lone shared_row.mir)) p)

pub send : IsSend the_row
send = let O = the_type in let ps : IsSend RawPtr = search sendable in
    owning_send O (ps, (heap.the_field_send, tt)) (λ d. held_keyless d.alloc d.at d.shared)
    (λ k. quiet (to O) (exits_of k (fields O)) ((struct_send (shape O) (ps, (heap.the_field_send, tt))).leaving k))
