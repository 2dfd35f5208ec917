-- What a zone keeps in addition to its lists.
use Rattle.tz_info.specs.{
  Steps.{Extremes.{AreExtremes}, Entries.{AreEntries, Entries}, LastSpans.{IsLastSpan}, WallPieces.{WallIndex, IsIndex}},
  Windows.{offsets},
  Zones.{Zone, IsValid, IsRuleOrNone},
  declared.zone.made.{extremes.Extremes.{Extremes}, last_span.LastSpan.{LastSpan}},
}

-- a valid zone with its least and greatest offset, its index, its entries and its last span, which were made from its lists when it was
pub record IsPrepared (z : Zone) (found : Extremes) (made : WallIndex) (entries : Entries) (last_span : LastSpan) : Type 0 where
  pub valid : IsValid z
  pub limits : IsRuleOrNone z.rule
  pub extremes : AreExtremes (offsets z.types z.rule) found
  pub index : IsIndex z entries made
  pub last : IsLastSpan z last_span
  pub list : AreEntries z entries
