use Rattle.zoned_time.proofs.{Words.{local_of, refl}, CalendarLengths.{comes_back}}
use Rattle.zoned_time.proofs.laws.since.lengths_lead_back.Goals as goal

pub returns : goal.returns
returns g c = λ zone e t length sum low plain is added.
    comes_back (g.Tz.TimeZone.law zone) e.utc (local_of g.Tz.Offset.Offset.seconds e) t.utc length sum low refl plain is added
