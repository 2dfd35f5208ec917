use Rattle.tz_info.proofs.{PosixLaws.{extended_fault, extended_law, extended_read, text_low, zone_memory}, Words.{apart, arith, value_once}}
use Rattle.tz_info.proofs.zone.time_zone.TimeZone.parse_extended_tz.Goals as goal

pub returns-in_err-spelled-clause-only : goal.returns-in_err-spelled-clause-only
returns-in_err-spelled-clause-only c z is = absurd (apart (extended_law _) z _ is (extended_fault _ _ c.in_err-spelled.ensures.0))

pub returns-in_err-spelled-clause-memory : goal.returns-in_err-spelled-clause-memory
returns-in_err-spelled-clause-memory c = let low = text_low _ _ _ (extended_fault _ _ c.in_err-spelled.ensures.0) in grind arith

pub returns-clause-found : goal.returns-clause-found
returns-clause-found c = let read = extended_read _ _ c.in_ok-spelled.ensures.0 in grind arith

pub returns-clause-only : goal.returns-clause-only
returns-clause-only c z is = let one = value_once (extended_law _) _ z (extended_read _ _ c.in_ok-spelled.ensures.0) is in grind arith

pub returns-clause-memory : goal.returns-clause-memory
returns-clause-memory c = zone_memory _ _ _ (extended_read _ _ c.in_ok-spelled.ensures.0)
