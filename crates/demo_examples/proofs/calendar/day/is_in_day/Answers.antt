use Rattle.std.proofs.Common.{rules, ◌≡◌, ◌∙◌, sym, ap, subst, true, false, pos, ◌+ℤ◌, is_lt, is_ge}
use Rattle.zoned.specs.{DateTime.{zoned}, Days.{IsFirstInstantFrom, midnight}, NaiveDate.{day_of}}
use Rattle.demo_examples.proofs.InDay.{lies, not_over, less_of}
use Rattle.demo_examples.proofs.calendar.day.is_in_day.Goals as goal

pub returns-then-is_ge : goal.returns-then-is_ge
returns-then-is_ge g c =
    let off = (g.Z.TimeZone.law c.args.zone.now).off in
    let day = day_of c.args.date in
    let r = (zoned c.args.instant.now).utc in
    let start = (zoned c.in_ok-start.start).utc in
    let end = (zoned c.in_ok-end.end).utc in
    let next : day_of c.in_ok-succ_opt.field-0 ≡ day +ℤ pos 1 = search rules in
    let ends : IsFirstInstantFrom off (midnight (day +ℤ pos 1)) end = subst (λ n. IsFirstInstantFrom off (midnight n) end) next c.in_ok-end.ensures.first in
    let less = c.earlier_is_less.ensures.less in (
      λ before. lies off day r start end c.in_ok-start.ensures.first ends
          (λ early. let no : true ≡ false = sym c.if-is_ge.true ∙ c.is_ge.ensures ∙ ap is_ge (c.cmp_instant.ensures ∙ (less r start).1 early) in cc)
          ((less r end).0 (sym c.cmp_instant-then-is_ge.ensures ∙ less_of _ (sym c.is_lt.ensures ∙ before))),
      λ lies. c.is_lt.ensures ∙ ap is_lt (c.cmp_instant-then-is_ge.ensures
          ∙ (less r end).1 (not_over off day r end (c.first_instants.ensures.once off) ends lies)),
    )
