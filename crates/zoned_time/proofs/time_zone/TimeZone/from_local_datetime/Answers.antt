use Rattle.zoned_time.proofs.{Words.{arith, of_calls, reading, refl, shown, sym, ◌∙◌, ◌≡◌}, Relocals.{fixed_single, relocal_of}}
use Rattle.zoned_time.proofs.time_zone.TimeZone.from_local_datetime.Goals as goal

pub returns-clause-instants : goal.returns-clause-instants
returns-clause-instants g c =
    relocal_of (g.Self.TimeZone.law c.args.self.now) (reading c.args.local.now) (λ d. shown d.datetime d.offset) _ _ (λ f. f.0 ≡ c.args.local)
    c.offset_from_local_datetime.result c.and_then.result refl
    (λ e f o d k step. (step.met.1 ∙ k, rw (g.met.Self.TimeZone.told o, sym k) (search of_calls))) c.offset_from_local_datetime.ensures c.and_then.ensures

pub returns-clause-fixed : goal.returns-clause-fixed
returns-clause-fixed g c = λ fixed range.
    fixed_single (g.Self.TimeZone.law c.args.self.now) (reading c.args.local.now) (λ d. shown d.datetime d.offset) c.and_then.result
    fixed range (returns-clause-instants g c)

pub returns-clause-utc : goal.returns-clause-utc
returns-clause-utc g c = grind (arith, returns-clause-fixed)
