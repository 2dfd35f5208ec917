use Rattle.std.specs.declared.option.Option.{Option, TheVariants.{None, Some}}
use Rattle.std_alloc.proofs.SendSync.{quiet, seen}
use Rattle.zoned_ffi.proofs.Words.{IsSend, Keyless, Ptr, RawPtr, exits_of, fields, lent, owning_send, sendable, shape, shared_row, struct_send, to, ℕ, [], ◌∷◌}
use Rattle.zoned_ffi.specs.contracts.lent.Lent.{the_row, the_type}
use Rattle.std.proofs.Crossing as crossing
use Rattle.tz_info.proofs.zone.time_zone.TimeZone.TheSendSync as zone_crosses
use Rattle.tz_info.specs.contracts.zone.time_zone.TimeZone as zone

lent_keyless : (a : ℕ) (p : Ptr) (k : Option shared_row.Denot) → Keyless (lent shared_row a p k)
lent_keyless a p None = λ e. tt
lent_keyless a p (Some x) = λ may e. (tt, seen shared_row (crossing.Arc-sync zone.the_row zone_crosses.the_send zone_crosses.the_sync) p x (a ∷ []))

pub send : IsSend the_row
send = let O = the_type in let ps : IsSend RawPtr = search sendable in
    owning_send O (ps, tt) (λ d. lent_keyless d.life d.at d.shared)
    (λ k. quiet (to O) (exits_of k (fields O)) ((struct_send (shape O) (ps, tt)).leaving k))
