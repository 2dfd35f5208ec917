use Rattle.tz_info.proofs.{
  PosixLaws.{fault_or_zone, fault_read, is_empty, not_empty, one_zone, posix_low, zone_memory, zone_read},
  Words.{arith, inl, refl},
}
use Rattle.tz_info.proofs.zone.time_zone.TimeZone.parse_posix_tz.Goals as goal

pub returns-then-is_empty-clause-memory : goal.returns-then-is_empty-clause-memory
returns-then-is_empty-clause-memory c = zone_memory _ _ _ (inl (is_empty _ _ c.is_empty.ensures c.if-is_empty.true, refl))

pub returns-in-Ok-clause-memory : goal.returns-in-Ok-clause-memory
returns-in-Ok-clause-memory c = zone_memory _ _ _
    (zone_read _ _ (not_empty _ _ c.is_empty.ensures c.if-is_empty.false) (rw c.as_bytes.ensures.value at c.in-Ok.ensures))

pub returns-in-Ok-clause-only : goal.returns-in-Ok-clause-only
returns-in-Ok-clause-only c z is =
    let one = one_zone _ _ z
    (zone_read _ _ (not_empty _ _ c.is_empty.ensures c.if-is_empty.false) (rw c.as_bytes.ensures.value at c.in-Ok.ensures)) is in grind arith

pub returns-in-Err-clause-only : goal.returns-in-Err-clause-only
returns-in-Err-clause-only c z is =
    let read = rw c.as_bytes.ensures.value at c.in-Err.ensures in
    absurd (fault_or_zone _ _ z (fault_read _ _ (not_empty _ _ c.is_empty.ensures c.if-is_empty.false) read.0) is)

pub returns-in-Err-clause-memory : goal.returns-in-Err-clause-memory
returns-in-Err-clause-memory c = λ memory.
    let read = rw c.as_bytes.ensures.value at c.in-Err.ensures in
    let low = posix_low _ _ (fault_read _ _ (not_empty _ _ c.is_empty.ensures c.if-is_empty.false) read.0) in absurd (omega arith)
