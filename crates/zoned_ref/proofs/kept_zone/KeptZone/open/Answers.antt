use Rattle.zoned_ref.{proofs.Words.{arith}, specs.{KeptZone.{IsNotOpened, IsRefused, reason_of}, Offsets.{IsNarrow}}}
use Rattle.zoned_ref.specs.declared.keep_error.KeepError.{KeepError, TheVariants.{OutOfMemory, WideZone}}
use Rattle.std.proofs.Common.{List, ℕ, ◌≡◌}
use Rattle.tz_info.{proofs.ForCallers.{file_pieces}, specs.{TzFiles.{IsTzFile, IsZoneFault.{No_memory}}, Zones.{IsValid, Zone}}}
use Rattle.tz_base.specs.declared.error.Error.TheVariants as faults
use Rattle.zoned_ref.specs.declared.keep_error.OpenError.TheVariants as why
use Rattle.zoned_ref.proofs.kept_zone.KeptZone.open.Goals as goal

-- a narrow zone is refused only if memory ran out
out_of_memory : (z : Zone) (e : KeepError) → IsRefused z e → IsNarrow z → reason_of e ≡ why.Zone faults.OutOfMemory
out_of_memory z e refused narrow = grind arith

not_opened : (bytes : List ℕ) (z : Zone) (e : KeepError) → IsTzFile bytes z → IsValid z → IsRefused z e → IsNotOpened bytes (reason_of e)
not_opened bytes z (WideZone back) file valid refused = (z, file, valid, refused.1)
not_opened bytes z (OutOfMemory back) file valid refused = let p = file_pieces bytes z file in No_memory p.0 p.1

pub returns-in-Err-keep-clause-only : goal.returns-in-Err-keep-clause-only
returns-in-Err-keep-clause-only c z file valid narrow = rw c.from.ensures (grind arith)

pub returns-in-Err-keep-clause-fault : goal.returns-in-Err-keep-clause-fault
returns-in-Err-keep-clause-fault c =
    rw c.from.ensures
    (not_opened c.args.bytes.now c.in-Ok.parsed c.in-Err-keep.refused c.in-Ok.ensures.found.0 c.in-Ok.ensures.found.1 c.in-Err-keep.ensures.kept)
