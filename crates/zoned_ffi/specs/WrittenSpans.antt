-- What is written of spans, and of a local time: how often clocks show it, and the spans around.
use Rattle.std.specs.Prelude.{ℤ, ◌≡◌, pos, neg_ℤ, unwrap_or, ◌-ℤ◌}
use Rattle.tz_base.specs.{declared.span.Span.{Span}, LocalTypes.{LocalType}, declared.change.Change.{Change}}
use Rattle.tz_info.specs.{Spans.{IsSpanAt}, Zones.{Zone, TypeAt}, Around.{Skips}, WallClocks.{Shows}}
use Rattle.zoned_ffi.specs.{WrittenTypes.{written_type}, declared.span.WrittenSpan.{WrittenSpan}, declared.local_info.WrittenLocalInfo.{WrittenLocalInfo}}
use Rattle.offset_core.specs.WallAnswer.{IsShownBetween, IsShownOnce}

-- the least second of 64 bits, and the greatest
abbrev pub least_second : ℤ
least_second = neg_ℤ (pos 9_223_372_036_854_775_808)

abbrev pub greatest_second : ℤ
greatest_second = pos 9_223_372_036_854_775_807

-- how a span is written: without a first second it begins at the least second, and without an end it ends at the greatest
abbrev pub written_span : Span → WrittenSpan
written_span s = record {
  from = unwrap_or s.from least_second;
  until = unwrap_or s.until greatest_second;
  local_type = written_type s.local_time_type;
}

-- the span of the second u is written
abbrev pub IsWrittenSpanAt : Zone → ℤ → WrittenSpan → Type 0
IsWrittenSpanAt z u w = (s : Span) × IsSpanAt (TypeAt z) u s × (w ≡ written_span s)

-- One second shows the local time, by 1, and both spans are that of this second. Or several do, by 2: the spans are those of the first and
-- the last of them. Or none does, by 0: the spans are that of the second before the change which skips it, and that of the change.
pub data IsLocalInfo (z : Zone) (local : ℤ) (w : WrittenLocalInfo) : Type 0 where
  once : (t : LocalType) (shown : IsShownOnce (Shows (TypeAt z) local) t) → w.shown ≡ pos 1 → IsWrittenSpanAt z shown.second w.first → w.last ≡ w.first
      → IsLocalInfo z local w
  several : (s t : LocalType) (shown : IsShownBetween (Shows (TypeAt z) local) s t) → w.shown ≡ pos 2 → IsWrittenSpanAt z shown.first w.first
      → IsWrittenSpanAt z shown.last w.last → IsLocalInfo z local w
  never : (c : Change) → Skips (TypeAt z) local c → w.shown ≡ pos 0 → IsWrittenSpanAt z (c.at -ℤ pos 1) w.first → IsWrittenSpanAt z c.at w.last
      → IsLocalInfo z local w
